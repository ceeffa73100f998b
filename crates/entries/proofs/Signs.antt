-- A signed number of 64 bits by its sign, and the steps by which `size_of` takes the size of a negative one. Assumes nothing.
use mathlib.Core.Path.{◌≡◌, refl, subst, ◌∙◌}
use mathlib.Core.Bool.{true, false}
use Prim.Native.Nat.{ℕ, zero, suc, ◌<◌, ◌^◌, zero-le}
use native.Mathlib.Omega.{arith}
use borrow.Author.Tests.{ltb-true, le-leb}
use lib.Dec.{T}
use lib.IntN.{ℤ, pos, negsuc, neg_ℤ, suc_ℤ, ◌+ℤ◌, ◌-ℤ◌, +ℤ_idl, +ℤ_one, neg_ℤ-neg_ℤ}
use lib.Signed.{lt_z, le_z}
use mir.Facts.{to_z-of_z}
use mir.Syntax.{w64}
use mir.Val.{SFits, to_z, of_z}
use Rattle.laws.proofs.Signed.{neg_fits}

-- a number below 0 is −(n + 1)
pub below_zero : (x : ℤ) → SFits w64 x → lt_z (to_z w64 (of_z w64 x)) (pos 0) ≡ true → (n : ℕ) × (x ≡ negsuc n) × (n < 2 ^ 63)
below_zero x f h = go x f (rw (to_z-of_z f) at h)
  where
    go : (z : ℤ) → SFits w64 z → lt_z z (pos 0) ≡ true → (n : ℕ) × (z ≡ negsuc n) × (n < 2 ^ 63)
    go (pos n) g e = let z : n < 0 = ltb-true n 0 e in absurd (omega arith)
    go (negsuc n) g e = (n, refl, g.sfits)

-- so that the test whether it is at least 0 says no
pub zero_test_no : (x : ℤ) → SFits w64 x → lt_z (to_z w64 (of_z w64 x)) (pos 0) ≡ true → le_z (pos 0) x ≡ false
zero_test_no x f t = let (n, e, h) = below_zero x f t in rw e

-- a number not below 0 is a natural number
pub not_below : (x : ℤ) → SFits w64 x → lt_z (to_z w64 (of_z w64 x)) (pos 0) ≡ false → (n : ℕ) × (x ≡ pos n) × (n < 2 ^ 63)
not_below x f h = go x f (rw (to_z-of_z f) at h)
  where
    go : (z : ℤ) → SFits w64 z → lt_z z (pos 0) ≡ false → (n : ℕ) × (z ≡ pos n) × (n < 2 ^ 63)
    go (pos n) g e = (n, refl, g.sfits)
    go (negsuc n) g e = absurd (subst T e tt)

-- so that the test says yes
pub zero_test_yes : (x : ℤ) → SFits w64 x → lt_z (to_z w64 (of_z w64 x)) (pos 0) ≡ false → le_z (pos 0) x ≡ true
zero_test_yes x f t = let (n, e, h) = not_below x f t in rw e (le-leb 0 n zero-le)

-- −(n + 1) and one more is −n
suc_neg : (n : ℕ) → suc_ℤ (negsuc n) ≡ neg_ℤ (pos n)
suc_neg zero = refl
suc_neg (suc n) = refl

-- a natural number at 64 bits
pub natural_held : (n : ℕ) → n < 2 ^ 63 → to_z w64 (of_z w64 (pos n)) ≡ pos n
natural_held n h = to_z-of_z {w = w64} {z = pos n} (record { sfits = h })

module _ (n : ℕ) (h : n < 2 ^ 63) where
  -- `x + 1` at x = −(n + 1) is −n
  pub plus_one : to_z w64 (of_z w64 (negsuc n)) +ℤ pos 1 ≡ neg_ℤ (pos n)
  plus_one = rw (to_z-of_z {w = w64} {z = negsuc n} (record { sfits = h })) (+ℤ_one (negsuc n) ∙ suc_neg n)

  -- `0 - (x + 1)` is n
  pub turned : pos 0 -ℤ to_z w64 (of_z w64 (to_z w64 (of_z w64 (negsuc n)) +ℤ pos 1)) ≡ pos n
  turned = rw (plus_one, to_z-of_z (neg_fits n h)) (+ℤ_idl (neg_ℤ (neg_ℤ (pos n))) ∙ neg_ℤ-neg_ℤ (pos n))
