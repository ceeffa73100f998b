-- The averages of a history that windows of a width can have, a row of sixteen for each of up to 64 origin years. Assumes nothing.
use Rattle.std.specs.Prelude.{ℕ, min, List, ℤ, pos, get_or, replicate}
use Rattle.rules.specs.Lists.{up_to, padded}
use Rattle.rules.specs.Triangle.{average_of}
use Rattle.rules.specs.History.{most_history, most_width, development_years, history_paid}

-- how many development years of origin year i a window can have
abbrev pub years_seen : ℕ → ℕ → ℕ → ℕ
years_seen years width i = min width (development_years years i)

-- the averages of origin year i, n the exposures and p the increments by row
unfoldable pub year_averages : ℕ → ℕ → List ℕ → List ℤ → ℕ → List ℤ
year_averages years width n p i = up_to (λ j. average_of (history_paid years p i j) (get_or n i 0)) (years_seen years width i)

-- row i of them, zero past them
unfoldable pub history_row : ℕ → ℕ → List ℕ → List ℤ → ℕ → List ℤ
history_row years width n p i = padded most_width (pos 0) (year_averages years width n p i)

-- a row of zeros
abbrev pub no_year : List ℤ
no_year = replicate most_width (pos 0)

-- the rows of the first m origin years, zeros past them
unfoldable pub history_rows : ℕ → ℕ → List ℕ → List ℤ → ℕ → List (List ℤ)
history_rows years width n p m = padded most_history no_year (up_to (history_row years width n p) m)
