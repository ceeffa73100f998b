-- The loop's invariant: the heads of the first j columns are put. Assumes nothing.
use mathlib.Core.Path.{◌≡◌}
use Prim.Native.Nat.{◌-◌, ◌≤◌}
use native.Mathlib.Omega.{arith}
use Rattle.rules.specs.Lists.{up_to, joined}
use Rattle.composing.specs.Text.{Put}
use Rattle.composing.proofs.Puts.{put_first, put_more, put_length}
use Rattle.web_table.specs.Web.{web_head}
use borrow.Author.Rules.{rules}
use Rattle.web_table.proofs.put_web_column_heads.Statement.{statement}
use Rattle.web_table.proofs.put_web_column_heads.Tie as tie

abbrev invariant-loop : tie.invariant-loop-j
invariant-loop out₀ at words shape end₀ n j₀ out end j = (j ≤ n) × Put out₀ out at end (joined (up_to (web_head words shape) j))

abbrev decreases-loop : tie.decreases-loop-j
decreases-loop out₀ at words shape end₀ n j₀ out end j = n - j

loop-holds : tie.Need-loop-j-init invariant-loop decreases-loop
loop-holds c = (omega arith, put_first _ _ _)

put-web-head-requires : tie.Need-put_web_head-end-requires invariant-loop decreases-loop
put-web-head-requires c κs = omega (arith, c.before.before.before.before.before.requires)

loop-again : tie.Need-loop-j-preserved invariant-loop decreases-loop
loop-again c = (omega arith, put_more (web_head c.before.before.before.before.before.before.before.before.args.words.now c.before.before.before.before.before.before.before.before.args.shape) c.before.before.before.before.before.loop-j.j c.before.before.before.before.before.loop-j.invariant.1 c.before.before.put_web_head-end.ensures)

same_length : tie.Need-shape_of-out invariant-loop decreases-loop
same_length c = put_length c.before.loop-j.invariant.1

returns : tie.Need-returns invariant-loop decreases-loop
returns c =
    let e : c.before.loop-j.j ≡ c.before.before.before.before.args.shape.columns = omega arith in
    rw e at c.before.loop-j.invariant.1

pub put_web_column_heads_spec : {M : Type 1} → statement M
put_web_column_heads_spec =
    tie.close
    (tie.spec invariant-loop decreases-loop loop-holds put-web-head-requires (λ c. search rules) (λ c. search rules) loop-again same_length returns)
