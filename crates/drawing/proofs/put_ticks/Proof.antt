-- The loop's invariant: the first t ticks are put. Assumes nothing.
use native.Mathlib.Omega.{arith}
use mathlib.Core.Path.{◌≡◌, refl}
use Prim.Native.Nat.{◌+◌, ◌-◌, ◌≤◌}
use Rattle.rules.specs.Lists.{up_to, joined}
use Rattle.composing.specs.Text.{Put}
use Rattle.composing.proofs.Puts.{put_first, put_more, put_length}
use Rattle.drawing.specs.Drawing.{tick_at, ticks}
use borrow.Author.Rules.{rules}
use Rattle.drawing.proofs.put_ticks.Statement.{statement}
use Rattle.drawing.proofs.put_ticks.Tie as tie

abbrev invariant-loop : tie.invariant-loop-t
invariant-loop out₀ at s wide q n end₀ t₀ out end t = (t ≤ n) × ((n ≡ s.up + s.down + 1) × Put out₀ out at end (joined (up_to (tick_at s wide q) t)))

abbrev decreases-loop : tie.decreases-loop-t
decreases-loop out₀ at s wide q n end₀ t₀ out end t = n - t

loop-holds : tie.Need-loop-t-init invariant-loop decreases-loop
loop-holds c = (omega arith, (refl, put_first _ _ _))

loop-again : tie.Need-loop-t-preserved invariant-loop decreases-loop
loop-again c =
    let s = c.before.before.before.before.before.before.before.before in
    let l = c.before.before.before.before.before.loop-t in
    (omega arith, (refl, put_more (tick_at s.args.s s.args.wide s.args.q) l.t l.invariant.1.1 c.before.before.put_tick-end.ensures))

same_length : tie.Need-shape_of-out invariant-loop decreases-loop
same_length c = put_length c.before.loop-t.invariant.1.1

returns : tie.Need-returns invariant-loop decreases-loop
unfolding ticks
returns c =
    let e : c.before.loop-t.t ≡ c.before.before.before.before.args.s.up + c.before.before.before.before.args.s.down + 1 = omega arith in
    rw e at c.before.loop-t.invariant.1.1

pub put_ticks_spec : {M : Type 1} → statement M
put_ticks_spec =
    tie.close
    (tie.spec
    invariant-loop
    decreases-loop
    (λ c. omega arith)
    (λ c. omega arith)
    loop-holds
    (λ c κs. search rules)
    (λ c. omega arith)
    (λ c. omega arith)
    loop-again
    same_length
    returns)
