-- The first year that fails question 19 stops the loop; where there is none, all pass (leading_stop, leading_all). Assumes nothing.
use mathlib.Core.Path.{◌≡◌, refl, sym, ◌∙◌}
use mathlib.Core.Bool.{Bool, true, false}
use mathlib.Core.List.{List}
use Prim.Native.Nat.{ℕ, ◌+◌, ◌/◌, ◌<◌}
use native.Mathlib.Nat.{zero-add, mul-le-mul}
use native.Mathlib.Omega.{arith}
use borrow.Author.Tests.{le-leb, lt-leb}
use lib.Dec.{leb}
use lib.Seq.{sets}
use Rattle.rules.specs.Lists.{up_to, below, every}
use Rattle.rules.specs.Tail.{tail_average, tail_payment, most_tail_average, tail_averages_pass}
use Rattle.laws.proofs.Lists.{every_next, fails_at}
use Rattle.laws.proofs.Joined.{sets_more}
use Rattle.entries.proofs.Leading.{leading_all, leading_stop}
use Rattle.tail.specs.Tailable.{years_carried}
use Rattle.tail.proofs.fill_tails.Goals as goal

-- question 19 of year i
abbrev passes : ℕ → List ℕ → ℕ → Bool
passes t e i = leb (tail_average t e i) most_tail_average

-- the first year that fails
stopped : (k : ℕ) (n : List ℕ) (t : ℕ) (e out : List ℕ) (i : ℕ) → i < k + 1 → every (passes t e) (below i) ≡ true → passes t e i ≡ false
    → (false ≡ tail_averages_pass k t e) × (sets out 0 (up_to (tail_payment n t e) i) ≡ sets out 0 (up_to (tail_payment n t e) (years_carried k t e)))
unfolding tail_averages_pass years_carried
stopped k n t e out i l passed failed = (sym (fails_at (passes t e) (λ (j : ℕ). j) (k + 1) i l failed), rw (leading_stop (passes t e) (k + 1) i l passed failed))

pub loop-i-init : goal.loop-i-init
unfolding up_to every
loop-i-init c = (omega arith, (refl, refl))

pub overflow_mul-carried : goal.overflow_mul-carried
overflow_mul-carried c =
    omega (arith, mul-le-mul c.requires.1 (c.requires.0.indices c.loop-i.i), mul-le-mul c.requires.1 (c.requires.0.indices (c.loop-i.i / 2)))

pub nonzero_div-carried : goal.nonzero_div-carried
nonzero_div-carried c = omega (arith, c.requires.0.first_index)

pub returns-then-carried-gt-MOST_TAIL_AVERAGE : goal.returns-then-carried-gt-MOST_TAIL_AVERAGE
unfolding tail_average
returns-then-carried-gt-MOST_TAIL_AVERAGE c =
    let failed = lt-leb (tail_average c.args.first c.args.indices.now c.loop-i.i) most_tail_average c.if-carried-gt-MOST_TAIL_AVERAGE.true in
    let both = stopped c.args.k c.args.exposures.now c.args.first c.args.indices.now c.args.tails.now c.loop-i.i (omega arith) c.loop-i.invariant.1.1 failed in
    (both.0, c.loop-i.invariant.1.0 ∙ both.1)

pub overflow_mul-tails : goal.overflow_mul-tails
overflow_mul-tails c = omega (arith, mul-le-mul (c.requires.0.exposures c.loop-i.i) c.if-carried-gt-MOST_TAIL_AVERAGE.false)

pub loop-i-preserved : goal.loop-i-preserved
unfolding tail_average tail_payment
loop-i-preserved c =
    let n = c.args.exposures.now in
    let e = c.args.indices.now in
    let i = c.loop-i.i in
    let passed = le-leb (tail_average c.args.first e i) most_tail_average (omega arith) in (
      omega arith,
      (
        rw c.loop-i.invariant.1.0 (rw (zero-add i) at (sets_more (tail_payment n c.args.first e) c.args.tails.now 0 i)),
        every_next (passes c.args.first e) (λ (j : ℕ). j) i c.loop-i.invariant.1.1 passed,
      ),
    )

pub returns : goal.returns
unfolding tail_averages_pass years_carried
returns c =
    let p = passes c.args.first c.args.indices.now in
    let e : c.loop-i.i ≡ c.args.k + 1 = omega arith in
    let passed : every p (below (c.args.k + 1)) ≡ true = rw e at c.loop-i.invariant.1.1 in
    (sym passed, rw (leading_all p (c.args.k + 1) passed) (rw e at c.loop-i.invariant.1.0))
