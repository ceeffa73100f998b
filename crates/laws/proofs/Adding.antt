-- A sum of signed terms that is taken one term a turn in 64 bits. Assumes nothing.
use mathlib.Core.Path.{◌≡◌, sym, ap, subst, ◌∙◌}
use Prim.Native.Nat.{ℕ, zero, suc, ◌+◌, ◌*◌, ◌^◌, ◌≤◌, ◌<◌, zero-le}
use native.Mathlib.Numerals.{add-one}
use native.Mathlib.Nat.{suc-mul}
use native.Mathlib.Omega.{arith}
use lib.IntN.{ℤ, nat_abs, ◌+ℤ◌}
use mir.Syntax.{w64}
use mir.Val.{SFits, to_z, of_z}
use mir.Facts.{to_z-of_z}
use Rattle.rules.specs.Triangle.{sum_to}
use Rattle.laws.proofs.Signed.{held, size_fits, sum_size_lem}

module _ (f : ℕ → ℤ) (b : ℕ) (small : (i : ℕ) → nat_abs (f i) ≤ b) where
  -- the size of the sum of n terms of at most b
  pub sum_to_size : (n : ℕ) → nat_abs (sum_to f n) ≤ n * b
  unfolding sum_to
  sum_to_size zero = zero-le
  sum_to_size (suc n) = omega (arith, sum_size_lem (sum_to f n) (f n), sum_to_size n, small n, suc-mul n b)

  -- the sum fits
  sum_to_fits : (n : ℕ) → n * b < 2 ^ 63 → SFits w64 (sum_to f n)
  sum_to_fits n h = size_fits (sum_to f n) (omega (arith, sum_to_size n))

  -- a local that holds the sum is read as the sum
  pub sum_to_read : (n s : ℕ) → n * b < 2 ^ 63 → s ≡ of_z w64 (sum_to f n) → to_z w64 s ≡ sum_to f n
  sum_to_read n s h e = ap (to_z w64) e ∙ to_z-of_z (sum_to_fits n h)

  -- one turn adds one term
  pub sum_to_step : (n s : ℕ) → (n + 1) * b < 2 ^ 63 → s ≡ of_z w64 (sum_to f n) → to_z w64 s +ℤ held (f n) ≡ sum_to f (n + 1)
  unfolding sum_to
  sum_to_step n s h e =
      let m : (n + 1) * b ≡ n * b + b = rw (add-one) (suc-mul n b) in
      let q : n * b < 2 ^ 63 = omega arith in
      let fits : nat_abs (f n) < 2 ^ 63 = omega (arith, small n) in
      rw (add-one, sum_to_read n s q e, to_z-of_z (size_fits (f n) fits))

  -- and still fits
  pub step_fits : (n s : ℕ) → (n + 1) * b < 2 ^ 63 → s ≡ of_z w64 (sum_to f n) → SFits w64 (to_z w64 s +ℤ held (f n))
  step_fits n s h e = subst (SFits w64) (sym (sum_to_step n s h e)) (sum_to_fits (n + 1) h)

  -- and is read as the sum
  pub step_read : (n s : ℕ) → (n + 1) * b < 2 ^ 63 → s ≡ of_z w64 (sum_to f n) → held (to_z w64 s +ℤ held (f n)) ≡ sum_to f (n + 1)
  step_read n s h e = to_z-of_z (step_fits n s h e) ∙ sum_to_step n s h e
