-- The loop's invariant: of the first a sums the one at place `best` is the smallest, and the first such. Assumes nothing.
use borrow.Author.Rules.{rules}
use native.Mathlib.Omega.{arith}
use mathlib.Core.Path.{◌≡◌}
use Prim.Native.Nat.{ℕ, ◌-◌, ◌≤◌}
use lib.ListN.{length}
use Rattle.best_setting.proofs.Smallest.{Smallest, smallest_one, smallest_more, best_is}
use Rattle.best_setting.proofs.best_of.Statement.{statement}
use Rattle.best_setting.proofs.best_of.Tie as tie

abbrev invariant-loop : tie.invariant-loop-a
invariant-loop sums n best₀ a₀ best a = (1 ≤ a) × (a ≤ n) × Smallest sums a best

abbrev decreases-loop : tie.decreases-loop-a
decreases-loop sums n best₀ a₀ best a = n - a

loop-holds : tie.Need-loop-a-init invariant-loop decreases-loop
loop-holds c = (omega arith, omega arith, smallest_one c.before.args.sums.now)

smaller-requires : tie.Need-smaller-best-requires invariant-loop decreases-loop
smaller-requires c κs = (omega (arith, c.before.loop-a.invariant.2.inside), omega arith)

add_a : tie.Need-overflow_step-a invariant-loop decreases-loop
add_a c = search rules

loop-less : tie.Need-loop-a-smaller invariant-loop decreases-loop
loop-less c = search rules

loop-again : tie.Need-loop-a-preserved invariant-loop decreases-loop
loop-again c = (omega arith, omega arith, rw c.smaller-best.ensures (smallest_more _ _ _ c.before.before.loop-a.invariant.2))

returns : tie.Need-returns invariant-loop decreases-loop
returns c =
    let s = c.before.before.before in
    let l = c.before.loop-a in
    let sums = s.args.sums.now in
    let e : l.a ≡ length sums = omega arith in
    let whole : Smallest sums (length sums) l.best = rw e at l.invariant.2 in
    (best_is sums l.best whole, whole.inside)

pub best_of_spec : {M : Type 1} → statement M
best_of_spec = tie.close (tie.spec invariant-loop decreases-loop loop-holds smaller-requires add_a loop-less loop-again returns)
