-- The loop's invariant: the first c slots are put. Assumes nothing.
use native.Mathlib.Omega.{arith}
use mathlib.Core.Path.{◌≡◌, refl}
use Prim.Native.Nat.{◌-◌, ◌≤◌}
use Rattle.rules.specs.Lists.{up_to, joined}
use Rattle.composing.specs.Text.{Put}
use Rattle.composing.proofs.Puts.{put_first, put_more, put_length}
use Rattle.plot.specs.Plot.{slot}
use Rattle.plot.proofs.put_slots.Statement.{statement}
use Rattle.plot.proofs.put_slots.Tie as tie

abbrev invariant-loop : tie.invariant-loop-c
invariant-loop out₀ at scale d first values s n end₀ c₀ out end c = (c ≤ n) × ((n ≡ s.slots) × Put out₀ out at end (joined (up_to (slot scale d first values s) c)))

abbrev decreases-loop : tie.decreases-loop-c
decreases-loop out₀ at scale d first values s n end₀ c₀ out end c = n - c

loop-holds : tie.Need-loop-c-init invariant-loop decreases-loop
loop-holds c = (omega arith, (refl, put_first _ _ _))

put-slot-requires : tie.Need-put_slot-end-requires invariant-loop decreases-loop
put-slot-requires c κs =
    let s = c.before.before.before.before in
    let l = c.before.before.loop-c in
    (((omega (arith, s.requires.0.0.0), s.requires.0.0.1), s.requires.0.1), (s.requires.1.0 l.c (omega arith), s.requires.1.1 l.c (omega arith)))

loop-again : tie.Need-loop-c-preserved invariant-loop decreases-loop
loop-again c =
    let s = c.before.before.before.before.before.before.before in
    let l = c.before.before.before.before.before.loop-c in
    (omega arith, (refl, put_more (slot s.args.scale s.args.d s.args.first s.args.values.now s.args.s) l.c l.invariant.1.1 c.before.before.put_slot-end.ensures))

same_length : tie.Need-shape_of-out invariant-loop decreases-loop
same_length c = put_length c.before.loop-c.invariant.1.1

returns : tie.Need-returns invariant-loop decreases-loop
returns c =
    let e : c.before.loop-c.c ≡ c.before.before.before.args.s.slots = omega arith in
    rw e at c.before.loop-c.invariant.1.1

pub put_slots_spec : {M : Type 1} → statement M
put_slots_spec =
    tie.close
    (tie.spec
    invariant-loop
    decreases-loop
    loop-holds
    put-slot-requires
    (λ c. omega arith)
    (λ c. omega arith)
    loop-again
    same_length
    returns)
