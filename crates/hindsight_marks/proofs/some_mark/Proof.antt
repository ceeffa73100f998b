-- The loop's invariant: whether one was found among the first i steps. Assumes nothing.
use mathlib.Core.Path.{◌≡◌, refl}
use Prim.Native.Nat.{◌-◌, ◌≤◌}
use native.Mathlib.Numerals.{add-one}
use native.Mathlib.Omega.{arith}
use Rattle.hindsight_marks.specs.Marks.{some_mark}
use borrow.Author.Rules.{rules}
use Rattle.hindsight_marks.proofs.some_mark.Statement.{statement}
use Rattle.hindsight_marks.proofs.some_mark.Tie as tie

abbrev invariant-loop : tie.invariant-loop-i
invariant-loop list k least most m found₀ i₀ found i = (i ≤ m) × (found ≡ some_mark list k least most i)

abbrev decreases-loop : tie.decreases-loop-i
decreases-loop list k least most m found₀ i₀ found i = m - i

loop-holds : tie.Need-loop-i-init invariant-loop decreases-loop
unfolding some_mark
loop-holds c = (omega arith, refl)

mark-of-requires : tie.Need-mark_of-requires invariant-loop decreases-loop
mark-of-requires c κs = (c.before.before.requires.0, (omega arith, omega (arith, c.before.before.requires.1)))

loop-again : tie.Need-loop-i-preserved invariant-loop decreases-loop
unfolding some_mark
loop-again c =
    let l = c.before.before.before.loop-i in
    (omega arith, rw (c.found_or-found.ensures, c.before.mark_of.ensures, l.invariant.1, add-one l.i))

returns : tie.Need-returns invariant-loop decreases-loop
returns c =
    let e : c.before.loop-i.i ≡ c.before.before.args.m = omega arith in
    rw e at c.before.loop-i.invariant.1

pub some_mark_spec : {M : Type 1} → statement M
some_mark_spec =
    tie.close
    (tie.spec
    invariant-loop
    decreases-loop
    loop-holds
    (λ c. search rules)
    mark-of-requires
    (λ c κs. search rules)
    (λ c. search rules)
    (λ c. omega arith)
    loop-again
    returns)
