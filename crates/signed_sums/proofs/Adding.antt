-- A sum of n signed terms that is taken one term a turn in 64 bits, where just these n are known to be small: the laws of a sum of which every term is. Assumes nothing.
use Prim.Native.Nat.{ℕ, ◌+◌, ◌*◌, ◌^◌, ◌≤◌, ◌<◌, zero-le}
use native.Mathlib.Decide.{dec_lt}
use native.Mathlib.Omega.{arith}
use borrow.Author.Tests.{lt-ltb, ltb-true}
use mathlib.Core.Path.{◌≡◌, refl, sym, ap, ◌∙◌}
use mathlib.Core.Bool.{Bool, true, false, cond}
use lib.Dec.{ltb}
use lib.IntN.{ℤ, pos, nat_abs, ◌+ℤ◌}
use mir.Syntax.{w64}
use mir.Val.{SFits, to_z, of_z}
use mir.Facts.{to_z-of_z}
use Rattle.rules.specs.Triangle.{sum_to}
use Rattle.laws.proofs.Signed.{held}
use Rattle.laws.proofs.Sums.{sum_to_same}
use Rattle.laws.proofs.Adding.{sum_to_size, sum_to_read, sum_to_step, step_fits}

module _ (f : ℕ → ℤ) (b n : ℕ) (small : (i : ℕ) → i < n → nat_abs (f i) ≤ b) where
  -- the terms, and zero past them
  abbrev term : ℕ → ℤ
  term i = cond (ltb i n) (f i) (pos 0)

  term_is : (i : ℕ) → i < n → term i ≡ f i
  term_is i h = rw (lt-ltb i n h)

  term_small : (i : ℕ) → nat_abs (term i) ≤ b
  term_small i = go (ltb i n) (λ e. small i (ltb-true i n e))
    where
      go : (t : Bool) → (t ≡ true → nat_abs (f i) ≤ b) → nat_abs (cond t (f i) (pos 0)) ≤ b
      go true h = h mathlib.Core.Path.refl
      go false h = zero-le

  same : (m : ℕ) → m ≤ n → sum_to term m ≡ sum_to f m
  same m h = sum_to_same term f m (λ i l. term_is i (omega arith))

  pub sum_size_lem : (m : ℕ) → m ≤ n → nat_abs (sum_to f m) ≤ m * b
  sum_size_lem m h = rw (same m h) at (sum_to_size term b term_small m)

  pub sum_read : (m s : ℕ) → m ≤ n → m * b < 2 ^ 63 → s ≡ of_z w64 (sum_to f m) → to_z w64 s ≡ sum_to f m
  sum_read m s h q e = sum_to_read term b term_small m s q (e ∙ ap (of_z w64) (sym (same m h))) ∙ same m h

  pub sum_step : (m s : ℕ) → m < n → (m + 1) * b < 2 ^ 63 → s ≡ of_z w64 (sum_to f m) → to_z w64 s +ℤ held (f m) ≡ sum_to f (m + 1)
  sum_step m s h q e =
      ap (λ (z : ℤ). to_z w64 s +ℤ held z) (sym (term_is m h)) ∙ sum_to_step term b term_small m s q (e ∙ ap (of_z w64) (sym (same m (omega arith)))) ∙ same (m + 1) (omega arith)

  pub sum_fits : (m s : ℕ) → m < n → (m + 1) * b < 2 ^ 63 → s ≡ of_z w64 (sum_to f m) → SFits w64 (to_z w64 s +ℤ held (f m))
  sum_fits m s h q e =
      rw (term_is m h) at (step_fits term b term_small m s q (e ∙ ap (of_z w64) (sym (same m (omega arith)))))

  -- the same where the sum is known as a number
  pub turn_fits : (m : ℕ) → m < n → (m + 1) * b < 2 ^ 63 → SFits w64 (sum_to f m +ℤ held (f m))
  turn_fits m h q =
      let r : m * b < 2 ^ 63 = omega arith in
      rw (sum_read m (of_z w64 (sum_to f m)) (omega arith) r refl) at (sum_fits m (of_z w64 (sum_to f m)) h q refl)

  pub turn_is : (m : ℕ) → m < n → (m + 1) * b < 2 ^ 63 → to_z w64 (of_z w64 (sum_to f m +ℤ held (f m))) ≡ sum_to f (m + 1)
  turn_is m h q =
      let r : m * b < 2 ^ 63 = omega arith in
      to_z-of_z (turn_fits m h q) ∙ (rw (sum_read m (of_z w64 (sum_to f m)) (omega arith) r refl) at (sum_step m (of_z w64 (sum_to f m)) h q refl))
