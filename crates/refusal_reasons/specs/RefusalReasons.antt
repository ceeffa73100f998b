-- Why question 7 or 13 says no: the first of its parts that does not hold, and the year (document 01, "Questions in their order"). Assumes nothing.
use Rattle.std.specs.Prelude.{ℕ, ◌+◌, cond, List, ltb, ℤ}
use Rattle.composing.specs.Text.{ascii}
use Rattle.reasons.specs.Reasons.{first_below, first_refused}
use Rattle.reason_words.specs.ReasonWords.{year_reason, base_reason, factor_reason}

-- v are the totals of the columns, d those of the diagonals
unfoldable pub totals_reason : (ℕ → ℤ) → (ℕ → ℤ) → ℕ → List ℕ
totals_reason v d k =
    cond (ltb (first_below v k) (k + 1)) (year_reason (ascii "development year ") (first_below v k))
    (cond (ltb (first_below d k) (k + 1)) (year_reason (ascii "payment year ") (first_below d k))
    (ascii "the averages add up to more than 1,000,000,000 hundredths"))

-- of the first year, B before the factor
unfoldable pub development_reason : (ℕ → ℕ) → (ℕ → ℕ) → ℕ → List ℕ
development_reason a b k =
    let h = first_refused a b k in
    cond (ltb (b h) 1) (base_reason h) (factor_reason h)
