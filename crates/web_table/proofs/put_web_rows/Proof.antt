-- The loop's invariant: the first i rows are put. Assumes nothing.
use mathlib.Core.Path.{◌≡◌}
use Prim.Native.Nat.{◌-◌, ◌≤◌}
use native.Mathlib.Omega.{arith}
use Rattle.rules.specs.Lists.{up_to, joined}
use Rattle.composing.specs.Text.{Put}
use Rattle.composing.proofs.Puts.{put_first, put_more, put_length}
use Rattle.web_rows.specs.Rows.{web_row}
use borrow.Author.Rules.{rules}
use Rattle.web_table.proofs.put_web_rows.Statement.{statement}
use Rattle.web_table.proofs.put_web_rows.Tie as tie

abbrev invariant-loop : tie.invariant-loop-i
invariant-loop out₀ at labels total shape values styles end₀ n i₀ out end i =
    (i ≤ n) × Put out₀ out at end (joined (up_to (web_row labels total shape values styles) i))

abbrev decreases-loop : tie.decreases-loop-i
decreases-loop out₀ at labels total shape values styles end₀ n i₀ out end i = n - i

loop-holds : tie.Need-loop-i-init invariant-loop decreases-loop
loop-holds c = (omega arith, put_first _ _ _)

put-web-row-requires : tie.Need-put_web_row-end-requires invariant-loop decreases-loop
put-web-row-requires c κs = (c.before.before.before.before.before.before.requires, omega arith)

loop-again : tie.Need-loop-i-preserved invariant-loop decreases-loop
loop-again c =
    let a = c.before.before.before.before.before.before.before.before.before.args in
    (omega arith, put_more (web_row a.labels.now a.total.now a.shape a.values.now a.styles.now) c.before.before.before.before.before.loop-i.i c.before.before.before.before.before.loop-i.invariant.1 c.before.before.put_web_row-end.ensures)

same_length : tie.Need-shape_of-out invariant-loop decreases-loop
same_length c = put_length c.before.loop-i.invariant.1

returns : tie.Need-returns invariant-loop decreases-loop
returns c =
    let e : c.before.loop-i.i ≡ c.before.before.before.before.before.args.shape.rows = omega arith in
    rw e at c.before.loop-i.invariant.1

pub put_web_rows_spec : {M : Type 1} → statement M
put_web_rows_spec =
    tie.close
    (tie.spec invariant-loop decreases-loop loop-holds put-web-row-requires (λ c. search rules) (λ c. search rules) loop-again same_length returns)
