-- Sections of the report's figures that are worked out by row of a triangle of the years 0 to k, from sections before them in the array xs. Assumes nothing.
use Rattle.std.specs.Prelude.{ℕ, ◌+◌, ◌-◌, List, ℤ}
use Rattle.rules.specs.Lists.{up_to, joined}
use Rattle.rules.specs.Triangle.{sum_to, row_start}
use Rattle.vectors.specs.Vectors.{figure_at, running}

-- of a triangle by row from place a on: the sum of each row, and the running sums of each row, by row
unfoldable pub row_sums : ℕ → ℕ → List ℤ → List ℤ
row_sums k a xs = up_to (λ i. sum_to (λ j. figure_at xs (a + row_start k i + j)) (k + 1 - i)) (k + 1)

unfoldable pub rows_running : ℕ → ℕ → List ℤ → List ℤ
rows_running k a xs = joined (up_to (λ i. running (a + row_start k i) (k + 1 - i) xs) (k + 1))
