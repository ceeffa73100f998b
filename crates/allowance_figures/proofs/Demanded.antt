-- The allowances of the report are those of the third demand. Assumes nothing.
use Prim.Native.Nat.{ℕ, zero, suc, ◌+◌, ◌-◌, ◌*◌, ◌/◌, ◌≤◌}
use native.Mathlib.Nat.{sub-zero}
use native.Mathlib.Numerals.{add-one}
use native.Mathlib.Omega.{arith}
use mathlib.Core.Path.{◌≡◌, refl, sym, ap}
use lib.ListN.{get_or}
use Rattle.rules.specs.Lists.{total, up_to}
use Rattle.rules.specs.Record.{Figures}
use Rattle.rules.specs.Demand.{payment_allowance, tail_allowance, provision_allowance, reserve_allowance}
use Rattle.laws.proofs.Totals.{total_none, total_first, total_same}
use Rattle.allowance_figures.specs.Allowances.{allowance}

-- the payments' allowances one after another, the last payment's first
abbrev term : ℕ → ℕ → ℕ → ℕ
term n i m = n * (5 * (i - m) + 2) + 100

-- i × (i + 1) is even
even : (i : ℕ) → 2 * (i * (i + 1) / 2) ≡ i * (i + 1)
even zero = refl
even (suc i) = rw (← add-one i) (omega (arith, even i))

-- one payment more
more : (n i a b : ℕ) → a ≡ n * (5 * (i + 1) + 2) + 100 + b → 2 * b ≡ n * (5 * (i * (i + 1))) + n * (4 * i) + 200 * i
    → 2 * a ≡ n * (5 * ((i + 1) * (i + 1 + 1))) + n * (4 * (i + 1)) + 200 * (i + 1)
more n i a b e h = omega arith

-- twice their sum
sum_twice : (n i : ℕ) → 2 * total (up_to (term n i) i) ≡ n * (5 * (i * (i + 1))) + n * (4 * i) + 200 * i
sum_twice n zero = omega (arith, total_none (term n 0))
sum_twice n (suc i) =
    let rest : total (up_to (λ m. term n (suc i) (suc m)) i) ≡ total (up_to (term n i) i) =
    total_same (λ m. term n (suc i) (suc m)) (term n i) i (λ m h. let e : suc i - suc m ≡ i - m = omega arith in rw e) in
    let first : total (up_to (term n (suc i)) (suc i)) ≡ n * (5 * (i + 1) + 2) + 100 + total (up_to (term n i) i) =
    rw (total_first (term n (suc i)) i, rest, sub-zero, add-one i) in
    rw (add-one i) at (more n i (total (up_to (term n (suc i)) (suc i))) (total (up_to (term n i) i)) first (sum_twice n i))

whole : (n i h a : ℕ) → 2 * h ≡ i * (i + 1) → 2 * a ≡ n * (5 * (i * (i + 1))) + n * (4 * i) + 200 * i → a + (n + 100) ≡ n * (5 * h + 2 * i + 1) + 100 * (i + 1)
whole n i h a e s =
    let p : n * (5 * (i * (i + 1))) ≡ n * (5 * (2 * h)) = ap (λ (z : ℕ). n * (5 * z)) (sym e) in
    omega (arith, p)

-- of the provision and of the ULAE reserve of origin year i
module _ (f : Figures) (i : ℕ) (le : i ≤ f.k) where
  pub provision_allowance_lem : provision_allowance f i ≡ allowance (get_or f.exposures i 0) i
  unfolding provision_allowance payment_allowance tail_allowance allowance
  provision_allowance_lem =
      let n = get_or f.exposures i 0 in
      let same =
      total_same (λ m. n * (5 * (f.k + 1 - (f.k + 1 - i + m)) + 2) + 100) (term n i) i
      (λ m h. let e : f.k + 1 - (f.k + 1 - i + m) ≡ i - m = omega arith in rw e) in
      rw same (whole n i (i * (i + 1) / 2) (total (up_to (term n i) i)) (even i) (sum_twice n i))

  pub reserve_allowance_lem : reserve_allowance f i ≡ allowance (get_or f.exposures i 0) i + 300
  unfolding reserve_allowance
  reserve_allowance_lem = rw provision_allowance_lem
