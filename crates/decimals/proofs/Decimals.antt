-- Laws of words that are decimals: their parts, whether they are one, and how large the digits are. Assumes nothing.
use mathlib.Core.Path.{◌≡◌, refl, sym, ap, ◌∙◌}
use mathlib.Core.Bool.{Bool, true, false, cond, ◌&&◌, ◌||◌, true≢false}
use mathlib.Core.List.{List, [], ◌∷◌}
use Prim.Native.Nat.{ℕ, suc, ◌+◌, ◌-◌, ◌*◌, ◌^◌, ◌≤◌, ◌<◌}
use native.Mathlib.Nat.{zero-lt-suc, one-le-pow, pow-suc, pow-le-pow_right, le_trans, mul-le-mul_right}
use lib.Pow.{pow-add}
use native.Mathlib.Omega.{arith}
use borrow.Author.Tests.{leb-true, le-leb, lt-leb}
use lib.Dec.{leb, ltb}
use lib.ListN.{length, take, drop, take-append-drop}
use Rattle.rules.specs.Lists.{every}
use Rattle.laws.proofs.Lists.{both_left, both_right, every_append}
use Rattle.composing.specs.Text.{ascii}
use Rattle.scanning.specs.Parts.{among, before, until, past}
use Rattle.scanning.specs.Numbers.{is_digit, is_natural, ceiling, with_digit, size_from}
use Rattle.decimals.specs.Decimals.{unsigned, whole_digits, fraction_digits, most_digits, is_decimal, numerator}

-- whether a word is a decimal, by its digits
module _ (w : List ℕ) where
  pub decimal_long : most_digits < length (whole_digits w) + length (fraction_digits w) → false ≡ is_decimal w
  unfolding is_decimal
  decimal_long h = rw (lt-leb _ most_digits h)

  module _ (short : length (whole_digits w) + length (fraction_digits w) ≤ most_digits) where
    pub decimal_digits : is_natural (unsigned w) ≡ true → true ≡ is_decimal w
    unfolding is_decimal
    decimal_digits h = rw (le-leb _ most_digits short, h)

    pub decimal_parts : is_natural (unsigned w) ≡ false → is_natural (whole_digits w) ≡ true → (b : Bool) → b ≡ is_natural (fraction_digits w) → b ≡ is_decimal w
    unfolding is_decimal
    decimal_parts h p b e = rw (le-leb _ most_digits short, h, p) e

    pub decimal_none : is_natural (unsigned w) ≡ false → is_natural (whole_digits w) ≡ false → false ≡ is_decimal w
    unfolding is_decimal
    decimal_none h p = rw (le-leb _ most_digits short, h, p)

  pub decimal_short : is_decimal w ≡ true → length (whole_digits w) + length (fraction_digits w) ≤ most_digits
  unfolding is_decimal
  decimal_short h = leb-true _ most_digits (both_left (leb (length (whole_digits w) + length (fraction_digits w)) most_digits) _ h)

-- 10^n of at most 15
pub ten_most : (n : ℕ) → n ≤ most_digits → 10 ^ n ≤ 10 ^ 15
ten_most n h = pow-le-pow_right (zero-lt-suc 9) h

-- and at least 1
pub ten_least : (n : ℕ) → 0 < 10 ^ n
ten_least n = one-le-pow n 10 (zero-lt-suc 9)

-- one digit more
digit_most : (n b : ℕ) → is_digit b ≡ true → with_digit n b + 1 ≤ 10 * (n + 1)
unfolding with_digit
digit_most n b h = go (ltb n ceiling) (leb-true b 57 (both_right (leb 48 b) (leb b 57) h))
  where
    go : (t : Bool) → b ≤ 57 → cond t (10 * n + (b - 48)) n + 1 ≤ 10 * (n + 1)
    go true l = omega arith
    go false l = omega arith

-- digits that go on after n are below (n + 1) × 10^(how many they are)
digits_most : (n : ℕ) (bs : List ℕ) → every is_digit bs ≡ true → size_from n bs + 1 ≤ (n + 1) * 10 ^ length bs
unfolding size_from every
digits_most n [] h = omega arith
digits_most n (b ∷ bs) h =
    let one = digit_most n b (both_left (is_digit b) (every is_digit bs) h) in
    let others = digits_most (with_digit n b) bs (both_right (is_digit b) (every is_digit bs) h) in
    le_trans others (le_trans (mul-le-mul_right (10 ^ length bs) one) (rw (pow-suc 10 (length bs)) (omega arith)))

-- the bytes of a part of digits are digits
module _ (xs : List ℕ) (n : ℕ) (h : every is_digit xs ≡ true) where
  cut : every is_digit (take n xs) && every is_digit (drop n xs) ≡ true
  cut = sym (every_append is_digit (take n xs) (drop n xs)) ∙ ap (every is_digit) (take-append-drop n xs) ∙ h

  front_digits : every is_digit (take n xs) ≡ true
  front_digits = both_left (every is_digit (take n xs)) (every is_digit (drop n xs)) cut

  back_digits : every is_digit (drop n xs) ≡ true
  back_digits = both_right (every is_digit (take n xs)) (every is_digit (drop n xs)) cut

natural_digits : (xs : List ℕ) → is_natural xs ≡ true → every is_digit xs ≡ true
unfolding is_natural
natural_digits [] h = absurd (true≢false (sym h))
natural_digits (x ∷ xs) h = h

-- of a decimal both parts are digits
abbrev point : ℕ → Bool
point = among (ascii ".")

parts_digits : (w : List ℕ) → is_decimal w ≡ true → (every is_digit (whole_digits w) ≡ true) × (every is_digit (fraction_digits w) ≡ true)
unfolding is_decimal whole_digits fraction_digits until past
parts_digits w h =
    go (is_natural (unsigned w)) refl (both_right (leb (length (whole_digits w) + length (fraction_digits w)) most_digits) (is_natural (unsigned w) || (is_natural (whole_digits w) && is_natural (fraction_digits w))) h)
  where
    go : (b : Bool) → is_natural (unsigned w) ≡ b → b || (is_natural (whole_digits w) && is_natural (fraction_digits w)) ≡ true
        → (every is_digit (whole_digits w) ≡ true) × (every is_digit (fraction_digits w) ≡ true)
    go true e p = (front_digits (unsigned w) (before point (unsigned w)) (natural_digits (unsigned w) e), back_digits (unsigned w) (suc (before point (unsigned w))) (natural_digits (unsigned w) e))
    go false e p =
        (natural_digits (whole_digits w) (both_left (is_natural (whole_digits w)) (is_natural (fraction_digits w)) p), natural_digits (fraction_digits w) (both_right (is_natural (whole_digits w)) (is_natural (fraction_digits w)) p))

-- the digits of a decimal make a number below 10^15, which is a float
pub numerator_most : (w : List ℕ) → is_decimal w ≡ true → numerator w < 2 ^ 53
unfolding numerator size_from
numerator_most w h =
    let p = parts_digits w h in
    let a = length (whole_digits w) in
    let b = length (fraction_digits w) in
    let n = size_from 0 (whole_digits w) in
    let first : n + 1 ≤ 10 ^ a = omega (arith, digits_most 0 (whole_digits w) p.0) in
    let all : numerator w + 1 ≤ 10 ^ (a + b) =
    le_trans (digits_most n (fraction_digits w) p.1) (rw (pow-add 10 a b) (mul-le-mul_right (10 ^ b) first)) in
    omega (arith, all, ten_most (a + b) (decimal_short w h))
