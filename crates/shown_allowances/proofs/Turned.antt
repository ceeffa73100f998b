-- Sums over the cells past the diagonal, by payment year or by origin year, and of differences. Assumes nothing.
use Prim.Native.Nat.{ℕ, zero, suc, ◌+◌, ◌-◌, ◌<◌}
use native.Mathlib.Numerals.{add-one}
use native.Mathlib.Omega.{arith}
use mathlib.Core.Path.{◌≡◌, refl, ap, ◌∙◌}
use lib.IntN.{ℤ, pos, ◌+ℤ◌, ◌-ℤ◌, +ℤ_idr}
use Rattle.rules.specs.Triangle.{sum_to}
use Rattle.laws.proofs.Diff.{is_self, is_add, is_minus, eq_is}
use Rattle.laws.proofs.Sums.{sum_to_same, sum_to_add}

-- the sum of two differences
minus_swap : (a b c d : ℤ) → (a -ℤ b) +ℤ (c -ℤ d) ≡ (a +ℤ c) -ℤ (b +ℤ d)
minus_swap a b c d =
    eq_is
    (is_add (is_minus (is_self a) (is_self b)) (is_minus (is_self c) (is_self d)))
    (is_minus (is_add (is_self a) (is_self c)) (is_add (is_self b) (is_self d)))
    (omega arith)

pub sum_to_minus : (f g : ℕ → ℤ) (n : ℕ) → sum_to (λ i. f i -ℤ g i) n ≡ sum_to f n -ℤ sum_to g n
unfolding sum_to
sum_to_minus f g zero = refl
sum_to_minus f g (suc n) = ap (λ (x : ℤ). x +ℤ (f n -ℤ g n)) (sum_to_minus f g n) ∙ minus_swap (sum_to f n) (sum_to g n) (f n) (g n)

module _ (y : ℕ → ℕ → ℤ) where
  -- payment year t of the origin years up to k, which has one cell of each after year t
  abbrev year : ℕ → ℕ → ℤ
  year k t = sum_to (λ m. y (suc (t + m)) t) (k - t)

  -- one origin year more
  year_more : (k t : ℕ) → t < suc k → year (suc k) t ≡ year k t +ℤ y (suc k) t
  unfolding sum_to
  year_more k t h =
      let e : suc k - t ≡ suc (k - t) = omega arith in
      let last : t + (k - t) ≡ k = omega arith in
      rw (e, last)

  years : (k : ℕ) → sum_to (year k) (suc k) ≡ sum_to (λ i. sum_to (y i) i) (suc k)
  unfolding sum_to
  years zero = refl
  years (suc k) =
      let none : suc k - suc k ≡ 0 = omega arith in
      let empty : year (suc k) (suc k) ≡ pos 0 = rw none in
      rw (empty, +ℤ_idr (sum_to (year (suc k)) (suc k)))
      (sum_to_same (year (suc k)) (λ t. year k t +ℤ y (suc k) t) (suc k) (year_more k)
      ∙ sum_to_add (year k) (y (suc k)) (suc k)
      ∙ ap (λ (x : ℤ). x +ℤ sum_to (y (suc k)) (suc k)) (years k))

  -- the cells (i, m) with m < i, by m or by i
  pub by_payment_year : (k : ℕ) → sum_to (λ t. sum_to (λ m. y (suc (t + m)) t) (k - t)) (k + 1) ≡ sum_to (λ i. sum_to (y i) i) (k + 1)
  by_payment_year k = rw (add-one k) (years k)
