-- The loop's invariant: the largest of the first c slots is known (largest_more). Assumes nothing.
use native.Mathlib.Omega.{arith}
use mathlib.Core.Path.{◌≡◌, refl, ap₂, ◌∙◌}
use Prim.Native.Nat.{◌-◌, ◌≤◌, max}
use Rattle.plot.specs.Plot.{largest_in}
use Rattle.plot.proofs.Slots.{largest_none, largest_more}
use borrow.Author.Rules.{rules}
use Rattle.plot.proofs.largest_on.Statement.{statement}
use Rattle.plot.proofs.largest_on.Tie as tie

abbrev invariant-loop : tie.invariant-loop-c
invariant-loop values low s n largest₀ c₀ largest c = (c ≤ n) × ((n ≡ s.slots) × (largest ≡ largest_in low values s c))

abbrev decreases-loop : tie.decreases-loop-c
decreases-loop values low s n largest₀ c₀ largest c = n - c

loop-holds : tie.Need-loop-c-init invariant-loop decreases-loop
loop-holds c = (omega arith, (refl, largest_none c.args.low c.args.values.now c.args.s))

slot-largest-requires : tie.Need-slot_largest-requires invariant-loop decreases-loop
slot-largest-requires c κs = c.before.before.requires c.before.loop-c.c (omega arith)

loop-again : tie.Need-loop-c-preserved invariant-loop decreases-loop
loop-again c =
    let s = c.before.before.before.before in
    let l = c.before.before.before.loop-c in
    (omega arith, (refl, c.max-largest.ensures ∙ ap₂ max l.invariant.1.1 c.before.slot_largest.ensures ∙ largest_more s.args.low s.args.values.now s.args.s l.c))

returns : tie.Need-returns invariant-loop decreases-loop
returns c =
    let e : c.before.loop-c.c ≡ c.before.before.args.s.slots = omega arith in
    rw e at c.before.loop-c.invariant.1.1

pub largest_on_spec : {M : Type 1} → statement M
largest_on_spec =
    tie.close
    (tie.spec
    invariant-loop
    decreases-loop
    loop-holds
    slot-largest-requires
    (λ c κs. search rules)
    (λ c. omega arith)
    (λ c. omega arith)
    loop-again
    returns)
