-- The loop's invariant: whether one was found among the first a positions. Assumes nothing.
use mathlib.Core.Path.{◌≡◌, refl}
use Prim.Native.Nat.{◌-◌, ◌≤◌}
use native.Mathlib.Numerals.{add-one}
use native.Mathlib.Omega.{arith}
use Rattle.history_refusals.specs.Refusals.{some_number}
use borrow.Author.Rules.{rules}
use Rattle.history_refusals.proofs.some_number.Statement.{statement}
use Rattle.history_refusals.proofs.some_number.Tie as tie

abbrev invariant-loop : tie.invariant-loop-a
invariant-loop list width least most n found₀ a₀ found a =
    (a ≤ n) × (found ≡ some_number list width least most a)

abbrev decreases-loop : tie.decreases-loop-a
decreases-loop list width least most n found₀ a₀ found a = n - a

loop-holds : tie.Need-loop-a-init invariant-loop decreases-loop
unfolding some_number
loop-holds c = (omega arith, refl)

number-of-requires : tie.Need-number_of-requires invariant-loop decreases-loop
number-of-requires c κs = (omega (arith, c.before.before.requires.0), c.before.before.requires.1)

loop-again : tie.Need-loop-a-preserved invariant-loop decreases-loop
unfolding some_number
loop-again c =
    let l = c.before.before.before.loop-a in
    (omega arith, rw (c.found_or-found.ensures, c.before.number_of.ensures, l.invariant.1, add-one l.a))

returns : tie.Need-returns invariant-loop decreases-loop
returns c =
    let e : c.before.loop-a.a ≡ c.before.before.args.n = omega arith in
    rw e at c.before.loop-a.invariant.1

pub some_number_spec : {M : Type 1} → statement M
some_number_spec =
    tie.close
    (tie.spec
    invariant-loop
    decreases-loop
    loop-holds
    number-of-requires
    (λ c κs. search rules)
    (λ c. omega arith)
    (λ c. omega arith)
    loop-again
    returns)
