-- One field: its value and its bits are each other's inverse. Assumes nothing.
use Prim.Native.Nat.{ℕ, zero, suc, ◌+◌, ◌*◌, ◌/◌, ◌%◌, ◌^◌, ◌<◌}
use native.Mathlib.Omega.{arith}
use mathlib.Core.Path.{◌≡◌, refl, ◌∙◌}
use mathlib.Core.Bool.{Bool, true, false, ◌||◌, ◌&&◌, not, false≢true}
use lib.Arith.{digits_lt}
use lib.Dec.{eqb, leb}
use lib.IntN.{ℤ, pos, negsuc, nat_abs}
use lib.Pow.{pow-add, split, high, low, shr_lt}
use borrow.Author.Tests.{leb-true, not-true, eqb-false, ne_eqb}
use Rattle.rules.specs.Record.{Kind, bits_of, signed_of, sign_of, value_of, code_of, in_range, negative_zero, bits_in_range}
use Rattle.laws.proofs.Lists.{both_left, both_right}

-- the sizes of a kind fit its width
abbrev pub Wide : Kind → Type 0
Wide κ = κ.most < 2 ^ κ.width

-- the size of a value in range fits the width
size_lt : (κ : Kind) → Wide κ → (v : ℤ) → in_range κ v ≡ true → nat_abs v < 2 ^ κ.width
unfolding in_range
size_lt κ w v h =
    let sized : leb κ.least (nat_abs v) && leb (nat_abs v) κ.most ≡ true = both_right (κ.signed || eqb (sign_of v) 0) _ h in
    omega (arith, leb-true (nat_abs v) κ.most (both_right (leb κ.least (nat_abs v)) _ sized))

-- a value in range of a kind with no sign bit is not below zero
pub not_below : (κ : Kind) → κ.signed ≡ false → (v : ℤ) → in_range κ v ≡ true → pos (nat_abs v) ≡ v
unfolding in_range
not_below κ e (pos n) h = refl
not_below κ e (negsuc n) h = absurd (false≢true (rw e at (both_left (κ.signed || false) _ h)))

-- the bits of a value: they fit the field, the value comes back from them, and they are in range
pub record Coded (κ : Kind) (v : ℤ) : Type 0 where
  pub fits : code_of κ v < 2 ^ bits_of κ
  pub back : value_of κ (code_of κ v) ≡ v
  pub ranges : bits_in_range κ (code_of κ v) ≡ true

-- the value of a field's bits: the bits come back from it, and it is in range
pub record Valued (κ : Kind) (x : ℕ) : Type 0 where
  pub back : code_of κ (value_of κ x) ≡ x
  pub ranges : in_range κ (value_of κ x) ≡ true

-- a sign bit and a size make the value again
sign_size : (v : ℤ) → signed_of (sign_of v) (nat_abs v) ≡ v
sign_size (pos n) = refl
sign_size (negsuc n) = refl

-- the sign is one bit
sign_lt : (v : ℤ) → sign_of v < 2
sign_lt (pos n) = omega arith
sign_lt (negsuc n) = omega arith

-- the bits of a value are never a zero with sign 1
no_zero : (v : ℤ) (p : ℕ) → nat_abs v < p → sign_of v * p + nat_abs v ≡ p → ⊥
no_zero (pos n) p l e = omega arith
no_zero (negsuc n) p l e = omega arith

-- and other bits, q the sign bit and r the size, are those of their value
sign_code : (q r p : ℕ) → q < 2 → (q * p + r ≡ p → ⊥) → sign_of (signed_of q r) * p + nat_abs (signed_of q r) ≡ q * p + r
sign_code zero r p l n = refl
sign_code (suc zero) zero p l n = absurd (n (omega arith))
sign_code (suc zero) (suc r) p l n = refl
sign_code (suc (suc q)) r p l n = absurd (omega arith)

abbrev kind : Bool → ℕ → ℕ → ℕ → Kind
kind b w least most = record { signed = b; width = w; least = least; most = most }

-- with a sign bit and with none
coded_by : (b : Bool) (w least most : ℕ) → most < 2 ^ w → (v : ℤ) → in_range (kind b w least most) v ≡ true → Coded (kind b w least most) v
unfolding code_of value_of bits_in_range negative_zero
coded_by true w least most m v h =
    let l : nat_abs v < 2 ^ w = size_lt (kind true w least most) m v h in
    let x = sign_of v * 2 ^ w + nat_abs v in
    let e : signed_of (x / 2 ^ w) (x % 2 ^ w) ≡ v = rw (high (sign_of v) w l, low (sign_of v) w l) (sign_size v) in
    record {
      fits = rw (pow-add 2 1 w) (digits_lt (sign_lt v) l);
      back = e;
      ranges = rw (e, h, ne_eqb x (2 ^ w) (no_zero v (2 ^ w) l));
    }
coded_by false w least most m v h =
    let e : pos (nat_abs v) ≡ v = not_below (kind false w least most) refl v h in
    record { fits = size_lt (kind false w least most) m v h; back = e; ranges = rw (e, h) }

valued_by : (b : Bool) (w least most x : ℕ) → x < 2 ^ bits_of (kind b w least most) → bits_in_range (kind b w least most) x ≡ true
    → Valued (kind b w least most) x
unfolding code_of value_of bits_in_range negative_zero
valued_by true w least most x l h =
    let q = x / 2 ^ w in
    let r = x % 2 ^ w in
    let ranges : in_range (kind true w least most) (signed_of q r) ≡ true = both_left _ (not (eqb x (2 ^ w))) h in
    let n : x ≡ 2 ^ w → ⊥ = eqb-false x (2 ^ w) (not-true (eqb x (2 ^ w)) (both_right (in_range (kind true w least most) (signed_of q r)) _ h)) in
    record { back = sign_code q r (2 ^ w) (shr_lt 1 w l) (λ e. n (rw (split x w) at e)) ∙ split x w; ranges = ranges }
valued_by false w least most x l h = record { back = refl; ranges = both_left (in_range (kind false w least most) (pos x)) true h }

-- the bits of a value in range, and the value of bits in range, of any kind
pub coded : (κ : Kind) → Wide κ → (v : ℤ) → in_range κ v ≡ true → Coded κ v
coded κ = coded_by κ.signed κ.width κ.least κ.most

pub valued : (κ : Kind) (x : ℕ) → x < 2 ^ bits_of κ → bits_in_range κ x ≡ true → Valued κ x
valued κ = valued_by κ.signed κ.width κ.least κ.most
