-- Numbers to be read: whole parts in groups of three digits, each but the first between a text before and a text after it. Assumes nothing.
use Rattle.std.specs.Prelude.{ℕ, zero, suc, ◌/◌, ◌%◌, cond, List, [], ◌++◌, ltb, ℤ, nat_abs}
use Rattle.composing.specs.Text.{ascii, last_digits_of, decimal, sign, without}

-- n in groups, where m groups after the first, which is below 1000, are enough for it
unfoldable pub grouped_in : ℕ → List ℕ → List ℕ → ℕ → List ℕ
grouped_in zero before after n = decimal (n % 1000)
grouped_in (suc m) before after n =
    cond (ltb n 1000) (decimal n) (grouped_in m before after (n / 1000) ++ (before ++ (last_digits_of 3 n ++ after)))

-- n in groups: a number of 64 bits has at most 7
unfoldable pub grouped : List ℕ → List ℕ → ℕ → List ℕ
grouped before after n = grouped_in 6 before after n

-- a number that counts units of 10^-d, its whole part in groups, with d decimals; no point where d is 0
unfoldable pub numeral : List ℕ → List ℕ → ℕ → ℤ → List ℕ
numeral before after zero z = sign z ++ grouped before after (nat_abs z)
numeral before after (suc d) z =
    sign z ++ (grouped before after (without (suc d) (nat_abs z)) ++ (ascii "." ++ last_digits_of (suc d) (nat_abs z)))

-- in text and tables: elements that the style sets apart, and no byte between the digits
unfoldable pub number : ℕ → ℤ → List ℕ
number d z = numeral (ascii "<i>") (ascii "</i>") d z

-- in plots, where there are no elements within text: a space
unfoldable pub spaced : ℕ → ℤ → List ℕ
spaced d z = numeral (ascii " ") [] d z
