-- How large what is not yet reported and the reserve of a row can be, and how B grows from row to row. Assumes nothing.
use mathlib.Core.Path.{◌≡◌, ap, ◌∙◌}
use mathlib.Core.List.{List}
use Prim.Native.Nat.{ℕ, suc, ◌+◌, ◌-◌, ◌*◌, ◌≤◌}
use native.Mathlib.Nat.{mul-le-mul, mul-le-mul_left}
use native.Mathlib.Numerals.{add-one}
use native.Mathlib.Omega.{arith}
use lib.ListN.{get_or}
use Rattle.rules.specs.Record.{million}
use Rattle.rules.specs.Completion.{most_ultimate, ultimate}
use Rattle.rules.specs.Expense.{reported_after, weighted, reserve_of}
use Rattle.laws.proofs.Totals.{total_first, total_same, rest_most}
use Rattle.expense.specs.Reservable.{Reservable}

-- a mixture of two numbers with weights that sum to M is at most M times their limit
pub mixture_most : (w n r : ℕ) → w ≤ million → n ≤ most_ultimate → r ≤ most_ultimate → w * n + (million - w) * r ≤ million * most_ultimate
mixture_most w n r a b d =
    let one = mul-le-mul_left w b in
    let two = mul-le-mul_left (million - w) d in
    omega arith

-- and their mean at most their limit
pub weighted_most : (w n r : ℕ) → w ≤ million → n ≤ most_ultimate → r ≤ most_ultimate → weighted w n r ≤ most_ultimate
unfolding weighted
weighted_most w n r a b d = omega (arith, mixture_most w n r a b d)

-- a reserve too
pub reserve_of_most : (ratio w n r : ℕ) → ratio ≤ million → w ≤ million → n ≤ most_ultimate → r ≤ most_ultimate → reserve_of ratio w n r ≤ most_ultimate
unfolding reserve_of
reserve_of_most ratio w n r p a b d = omega (arith, mul-le-mul p (weighted_most w n r a b d))

-- B of the next row
pub reported_more : (k : ℕ) (b : List ℕ) (i : ℕ) → i ≤ k → reported_after k b (i + 1) ≡ reported_after k b i + get_or b (k - i) 0
unfolding reported_after
reported_more k b i h =
    let first : k + 1 - suc i + 0 ≡ k - i = omega arith in
    let rest = total_same (λ m. get_or b (k + 1 - suc i + suc m) 0) (λ m. get_or b (k + 1 - i + m) 0) i (λ m l. ap (λ (n : ℕ). get_or b n 0) (omega arith)) in
    ap (reported_after k b) (add-one i) ∙ omega (arith, total_first (λ m. get_or b (k + 1 - suc i + m) 0) i, rest, ap (λ (n : ℕ). get_or b n 0) first)

module _ (k : ℕ) (c q b : List ℕ) (w ratio : ℕ) (fine : Reservable k c q b w ratio) where
  -- B is at most M
  pub reported_most : (i : ℕ) → i ≤ k + 1 → reported_after k b i ≤ million
  unfolding reported_after
  reported_most i h = rest_most b (k + 1) i million h fine.reporting

  -- X × B, and N
  pub product_most : (i : ℕ) → i ≤ k → ultimate c q i * reported_after k b i ≤ most_ultimate * million
  product_most i h = mul-le-mul (fine.ultimates i h) (reported_most i (omega arith))

  -- R
  pub provision_most : (i : ℕ) → i ≤ k → get_or q i 0 ≤ most_ultimate
  unfolding ultimate
  provision_most i h = omega (arith, fine.ultimates i h)
