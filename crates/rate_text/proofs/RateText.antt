-- Laws of words that are rates: hexadecimal digits, sixteen of them and the number that they make. Assumes nothing.
use mathlib.Core.Path.{◌≡◌, sym, ◌∙◌}
use mathlib.Core.Bool.{true, false}
use mathlib.Core.List.{List}
use Prim.Native.Nat.{ℕ, ◌+◌, ◌*◌, ◌^◌, ◌≤◌, ◌<◌}
use native.Mathlib.Nat.{pow-suc, pow-le-pow_right, zero-lt-suc}
use native.Mathlib.Numerals.{add-one}
use native.Mathlib.Omega.{arith}
use borrow.Author.Tests.{eqb-true, eq-eqb}
use lib.Dec.{eqb}
use lib.ListN.{length, get_or, drop}
use lib.Seq.{drop-cons, drop-length}
use lib.Ieee.{binary64, of_bits}
use Rattle.rules.specs.Lists.{every}
use Rattle.laws.proofs.Lists.{both_left, both_right, every_at}
use Rattle.decimals.specs.Decimals.{is_decimal, decimal_of}
use Rattle.rate_text.specs.RateText.{is_hex_digit, hex_digit, is_bits, bits_from, rate_of}

-- a word of sixteen bytes
pub bits_are : (w : List ℕ) → length w ≡ 16 → is_bits w ≡ every is_hex_digit w
unfolding is_bits
bits_are w h = rw (eq-eqb (length w) 16 h)

module _ (w : List ℕ) (h : is_bits w ≡ true) where
  pub bits_sixteen : length w ≡ 16
  unfolding is_bits
  bits_sixteen = eqb-true (length w) 16 (both_left (eqb (length w) 16) (every is_hex_digit w) h)

  pub bits_digit : (i : ℕ) → i < length w → is_hex_digit (get_or w i 0) ≡ true
  unfolding is_bits
  bits_digit i l = every_at is_hex_digit w i 0 l (both_right (eqb (length w) 16) (every is_hex_digit w) h)

-- one digit more of a word, and the end of it
pub bits_more : (w : List ℕ) (i n d : ℕ) → i < length w → bits_from 0 w ≡ bits_from n (drop i w) → d ≡ hex_digit (get_or w i 0)
    → bits_from 0 w ≡ bits_from (16 * n + d) (drop (i + 1) w)
unfolding bits_from
bits_more w i n d l e f = rw (f, add-one i) (e ∙ rw (drop-cons w i 0 l))

pub bits_end : (w : List ℕ) (i n : ℕ) → i ≡ length w → bits_from 0 w ≡ bits_from n (drop i w) → n ≡ bits_from 0 w
unfolding bits_from
bits_end w i n h e = sym (e ∙ rw (h, drop-length w))

-- i digits are below 16^i, and sixteen fit 64 bits
pub bits_below : (n i d : ℕ) → n < 16 ^ i → d < 16 → 16 * n + d < 16 ^ (i + 1)
bits_below n i d h l = rw (add-one i, pow-suc 16 i) (omega arith)

pub bits_fit : (n i d : ℕ) → n < 16 ^ i → d < 16 → i < 16 → 16 * n + d < 16 ^ 16
bits_fit n i d h l s =
    let more : i + 1 ≤ 16 = omega arith in
    let most : 16 ^ (i + 1) ≤ 16 ^ 16 = pow-le-pow_right (zero-lt-suc 15) more in
    omega (arith, bits_below n i d h l)

-- by which of the two a word is
module _ (w : List ℕ) where
  pub bits_value : is_bits w ≡ true → of_bits binary64 (bits_from 0 w) ≡ rate_of w
  unfolding rate_of
  bits_value h = rw h

  pub decimal_value : is_bits w ≡ false → is_decimal w ≡ true → decimal_of w ≡ rate_of w
  unfolding rate_of
  decimal_value h d = rw (h, d)

  pub no_rate : is_bits w ≡ false → is_decimal w ≡ false → of_bits binary64 0x7ff8_0000_0000_0000 ≡ rate_of w
  unfolding rate_of of_bits
  no_rate h d = rw (h, d)
