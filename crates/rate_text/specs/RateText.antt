-- A rate in a text (docs/SHEET.md): a decimal, which is the float nearest to it, or the bits of a float in hexadecimal. Assumes nothing.
use Rattle.std.specs.Prelude.{ℕ, ◌+◌, ◌-◌, ◌*◌, Bool, cond, ◌&&◌, ◌||◌, List, [], ◌∷◌, eqb, leb, length, Float}
use Rattle.std.specs.Float.{nan, binary64}
use Rattle.std.specs.Float.Ieee.{of_bits}
use Rattle.rules.specs.Lists.{every, between}
use Rattle.decimals.specs.Decimals.{is_decimal, decimal_of}

-- a hexadecimal digit, in small or capital letters, and its value
unfoldable pub is_hex_digit : ℕ → Bool
is_hex_digit b = between 48 57 b || (between 65 70 b || between 97 102 b)

unfoldable pub hex_digit : ℕ → ℕ
hex_digit b = cond (leb b 57) (b - 48) (cond (leb b 70) (b - 55) (b - 87))

-- sixteen of them
unfoldable pub is_bits : List ℕ → Bool
is_bits w = eqb (length w) 16 && every is_hex_digit w

-- the number that hexadecimal digits go on to after n
unfoldable pub bits_from : ℕ → List ℕ → ℕ
bits_from n [] = n
bits_from n (b ∷ bs) = bits_from (16 * n + hex_digit b) bs

-- whether a word is a rate, and which float it is, a NaN where it is none
unfoldable pub is_rate : List ℕ → Bool
is_rate w = is_bits w || is_decimal w

unfoldable pub rate_of : List ℕ → Float
rate_of w = cond (is_bits w) (of_bits binary64 (bits_from 0 w)) (cond (is_decimal w) (decimal_of w) nan)
