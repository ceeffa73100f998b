-- Signed numbers by their sizes: what fits 64 bits, and the sizes of sums, multiples and quotients. Assumes nothing.
use mathlib.Core.Path.{◌≡◌, refl, ◌∙◌}
use mathlib.Core.Bool.{Bool, true, false, cond}
use Prim.Native.Nat.{ℕ, zero, suc, ◌+◌, ◌-◌, ◌*◌, ◌/◌, ◌%◌, ◌^◌, ◌≤◌, ◌<◌}
use native.Mathlib.Nat.{zero-div, zero-mod, div-le_self, mul-le-mul_left, div-le_of_le-mul}
use native.Mathlib.Omega.{arith}
use borrow.Author.Tests.{leb-true}
use lib.Dec.{ltb}
use lib.IntN.{ℤ, pos, negsuc, neg_ℤ, nat_abs, ◌+ℤ◌, ◌-ℤ◌, ◌*ℤ◌, +ℤ_idl}
use lib.Signed.{quot_z, rem_z, le_z}
use mir.Syntax.{w64}
use mir.Val.{SFits, to_z, of_z}
use mir.ValLaws.{to_z_pos, to_z-of_z}
use Rattle.rules.specs.Record.{signed_of, sign_of}

-- what a local that was set to z is read as
abbrev pub held : ℤ → ℤ
held z = to_z w64 (of_z w64 z)

-- a number whose size is below 2 ^ 63 fits
pub size_fits : (z : ℤ) → nat_abs z < 2 ^ 63 → SFits w64 z
size_fits (pos n) h = record { sfits = h }
size_fits (negsuc n) h = record { sfits = omega arith }

-- a signed number of 64 bits is at most 2^63 in size
pub size_most : (z : ℤ) → SFits w64 z → nat_abs z ≤ 2 ^ 63
size_most (pos n) f = omega (arith, f.sfits)
size_most (negsuc n) f = omega (arith, f.sfits)

-- the size of a sum is at most the sum of the sizes
cond_size : (t : Bool) (a b : ℕ) → nat_abs (cond t (negsuc (suc b - suc a)) (pos (a - suc b))) ≤ a + suc b
cond_size true a b = omega arith
cond_size false a b = omega arith

pub sum_size_lem : (x y : ℤ) → nat_abs (x +ℤ y) ≤ nat_abs x + nat_abs y
sum_size_lem (pos a) (pos b) = omega arith
sum_size_lem (pos a) (negsuc b) = cond_size (ltb a (suc b)) a b
sum_size_lem (negsuc a) (pos b) = omega (arith, cond_size (ltb b (suc a)) b a)
sum_size_lem (negsuc a) (negsuc b) = omega arith

-- the size of a size with a sign
pub signed_size : (b n : ℕ) → nat_abs (signed_of b n) ≡ n
signed_size zero n = refl
signed_size (suc b) zero = refl
signed_size (suc b) (suc n) = refl

-- zero has no sign
pub signed_zero : (b : ℕ) → signed_of b 0 ≡ pos 0
signed_zero zero = refl
signed_zero (suc b) = refl

-- −n fits 64 bits
pub neg_fits : (n : ℕ) → n < 2 ^ 63 → SFits w64 (neg_ℤ (pos n))
neg_fits n h = size_fits (neg_ℤ (pos n)) (rw (signed_size 1 n) h)

-- what the machine asks of `0 - (n as i64)`, and what it gives
pub minus_fits : (n : ℕ) → n < 2 ^ 63 → SFits w64 (pos 0 -ℤ to_z w64 n)
minus_fits n h = rw (to_z_pos w64 n h, +ℤ_idl (neg_ℤ (pos n))) (neg_fits n h)

pub minus : (n : ℕ) → n < 2 ^ 63 → to_z w64 (of_z w64 (pos 0 -ℤ to_z w64 n)) ≡ neg_ℤ (pos n)
minus n h = to_z-of_z w64 (pos 0 -ℤ to_z w64 n) (minus_fits n h) ∙ rw (to_z_pos w64 n h) (+ℤ_idl (neg_ℤ (pos n)))

-- the size of a multiple
pub times_size : (k : ℕ) (z : ℤ) → nat_abs (pos k *ℤ z) ≡ k * nat_abs z
times_size k (pos n) = refl
times_size k (negsuc n) = signed_size 1 (k * suc n)

-- division toward zero keeps the sign and divides the size, and what it leaves over has the sign too
pub signed_quotient : (b m n : ℕ) → quot_z (signed_of b m) (pos n) ≡ signed_of b (m / n)
signed_quotient zero m n = refl
signed_quotient (suc b) zero n = rw (zero-div n)
signed_quotient (suc b) (suc m) n = refl

pub signed_remainder : (b m n : ℕ) → rem_z (signed_of b m) (pos n) ≡ signed_of b (m % n)
signed_remainder zero m n = refl
signed_remainder (suc b) zero n = rw (zero-mod n)
signed_remainder (suc b) (suc m) n = refl

-- a quotient by a whole number fits where the dividend does
pub part_fits : (z : ℤ) (d : ℕ) → nat_abs z < 2 ^ 63 → SFits w64 (quot_z (held z) (pos d))
part_fits z d h = rw (to_z-of_z w64 z (size_fits z h)) (go z h)
  where
    go : (x : ℤ) → nat_abs x < 2 ^ 63 → SFits w64 (quot_z x (pos d))
    go (pos m) l = size_fits (pos (m / d)) (omega (arith, div-le_self m d))
    go (negsuc m) l = neg_fits (suc m / d) (omega (arith, div-le_self (suc m) d))

-- the sign of a number given by sign and size, for another size that is zero where the first is
pub sign_again : (b m n : ℕ) → (m ≡ 0 → n ≡ 0) → signed_of (sign_of (signed_of b m)) n ≡ signed_of b n
sign_again zero m n z = refl
sign_again (suc b) zero n z = rw (z refl)
sign_again (suc b) (suc m) n z = refl

-- a part u of z, in parts of m
pub part_most : (m u : ℕ) (z : ℤ) → le_z (pos u) z ≡ true → m * u / nat_abs z ≤ m
part_most m u (pos n) e = div-le_of_le-mul n (omega (arith, mul-le-mul_left m (leb-true u n e)))
part_most m u (negsuc n) e = let w : ◌≡◌ {A = ℕ} 0 1 = cc in omega arith
