-- Decimals of a text, and the 64-bit float that each is read as (docs/SHEET.md). `round` of the kit's `lib.Ieee` is the float nearest to a fraction. Assumes nothing.
use Rattle.std.specs.Prelude.{ℕ, ◌+◌, ◌^◌, Bool, cond, ◌&&◌, ◌||◌, List, eqb, leb, length, get_or, drop, Float}
use Rattle.std.specs.Float.{binary64}
use Rattle.std.specs.Float.Ieee.{round}
use Rattle.composing.specs.Text.{ascii}
use Rattle.scanning.specs.Parts.{among, until, past}
use Rattle.scanning.specs.Numbers.{is_natural, size_from}

-- whether a minus sign stands in front, and what comes after it
abbrev pub is_negative : List ℕ → Bool
is_negative w = eqb (get_or w 0 0) 45

unfoldable pub unsigned : List ℕ → List ℕ
unsigned w = cond (is_negative w) (drop 1 w) w

-- the digits before the point, and those after it, none where there is no point
unfoldable pub whole_digits : List ℕ → List ℕ
whole_digits w = until (among (ascii ".")) (unsigned w)

unfoldable pub fraction_digits : List ℕ → List ℕ
fraction_digits w = past (among (ascii ".")) (unsigned w)

-- the most digits of a decimal
abbrev pub most_digits : ℕ
most_digits = 15

-- a decimal: digits, or digits on both sides of a point, at most 15 in all, with a minus sign in front where it is below zero
unfoldable pub is_decimal : List ℕ → Bool
is_decimal w =
    leb (length (whole_digits w) + length (fraction_digits w)) most_digits
    && (is_natural (unsigned w) || (is_natural (whole_digits w) && is_natural (fraction_digits w)))

-- the whole number that its digits make: the decimal is that over 10^n, n being how many digits come after the point
unfoldable pub numerator : List ℕ → ℕ
numerator w = size_from (size_from 0 (whole_digits w)) (fraction_digits w)

-- the float nearest to a decimal, of two that are as near the even one; one of zero keeps its sign
unfoldable pub decimal_of : List ℕ → Float
decimal_of w = round binary64 (is_negative w) (numerator w) (10 ^ length (fraction_digits w))
