-- The loop's invariant: the heads of the first a settings are put. Assumes nothing.
use Prim.Native.Nat.{◌-◌, ◌≤◌}
use native.Mathlib.Omega.{arith}
use mathlib.Core.Path.{◌≡◌}
use Rattle.rules.specs.Lists.{up_to, joined}
use Rattle.composing.specs.Text.{Put}
use Rattle.composing.proofs.Puts.{put_first, put_more, put_length}
use Rattle.hindsight_heads.specs.Heads.{setting_head}
use borrow.Author.Rules.{rules}
use Rattle.hindsight_heads.proofs.put_setting_heads.Statement.{statement}
use Rattle.hindsight_heads.proofs.put_setting_heads.Tie as tie

abbrev invariant-loop : tie.invariant-loop-a
invariant-loop out₀ at n end₀ a₀ out end a = (a ≤ n) × Put out₀ out at end (joined (up_to setting_head a))

abbrev decreases-loop : tie.decreases-loop-a
decreases-loop out₀ at n end₀ a₀ out end a = n - a

loop-holds : tie.Need-loop-a-init invariant-loop decreases-loop
loop-holds c = (omega arith, put_first _ _ _)

loop-again : tie.Need-loop-a-preserved invariant-loop decreases-loop
loop-again c =
    let l = c.before.before.before.before.before.loop-a in
    (omega arith, put_more setting_head l.a l.invariant.1 c.before.before.put_setting_head-end.ensures)

same_length : tie.Need-shape_of-out invariant-loop decreases-loop
same_length c = put_length c.before.loop-a.invariant.1

returns : tie.Need-returns invariant-loop decreases-loop
returns c =
    let e : c.before.loop-a.a ≡ c.before.before.before.args.n = omega arith in
    rw e at c.before.loop-a.invariant.1

pub put_setting_heads_spec : {M : Type 1} → statement M
put_setting_heads_spec =
    tie.close
    (tie.spec
    invariant-loop
    decreases-loop
    loop-holds
    (λ c κs. search rules)
    (λ c. search rules)
    (λ c. omega arith)
    loop-again
    same_length
    returns)
