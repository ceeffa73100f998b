-- The loop's invariant: the first a positions are put. Assumes nothing.
use mathlib.Core.Path.{◌≡◌}
use Prim.Native.Nat.{◌-◌, ◌≤◌}
use native.Mathlib.Omega.{arith}
use Rattle.rules.specs.Lists.{up_to, joined}
use Rattle.composing.specs.Text.{Put}
use Rattle.composing.proofs.Puts.{put_first, put_more, put_length}
use Rattle.drift_bars.specs.Bars.{drift_slot, drift_bars}
use Rattle.drift_bars.proofs.put_drift_bars.Statement.{statement}
use Rattle.drift_bars.proofs.put_drift_bars.Tie as tie

abbrev invariant-loop : tie.invariant-loop-a
invariant-loop out₀ at scale first list width j n end₀ a₀ out end a =
    (a ≤ n) × Put out₀ out at end (joined (up_to (drift_slot scale first list width j) a))

abbrev decreases-loop : tie.decreases-loop-a
decreases-loop out₀ at scale first list width j n end₀ a₀ out end a = n - a

loop-holds : tie.Need-loop-a-init invariant-loop decreases-loop
loop-holds c = (omega arith, put_first _ _ _)

put-drift-slot-requires : tie.Need-put_drift_slot-end-requires invariant-loop decreases-loop
put-drift-slot-requires c κs = c.before.before.before.before.requires c.before.before.loop-a.a (omega arith)

loop-again : tie.Need-loop-a-preserved invariant-loop decreases-loop
loop-again c =
    let s = c.before.before.before.before.before.before.before.args in
    let l = c.before.before.before.before.before.loop-a in
    (omega arith, put_more (drift_slot s.scale s.first s.list.now s.width s.j) l.a l.invariant.1 c.before.before.put_drift_slot-end.ensures)

same_length : tie.Need-shape_of-out invariant-loop decreases-loop
same_length c = put_length c.before.loop-a.invariant.1

returns : tie.Need-returns invariant-loop decreases-loop
unfolding drift_bars
returns c =
    let e : c.before.loop-a.a ≡ c.before.before.before.args.n = omega arith in
    rw e at c.before.loop-a.invariant.1

pub put_drift_bars_spec : {M : Type 1} → statement M
put_drift_bars_spec =
    tie.close
    (tie.spec
    invariant-loop
    decreases-loop
    loop-holds
    put-drift-slot-requires
    (λ c. omega arith)
    (λ c. omega arith)
    loop-again
    same_length
    returns)
