-- The total row of a table that stands in the two arrays, values and styles, row by row. Assumes nothing.
use Rattle.std.specs.Prelude.{ℕ, ◌+◌, ◌*◌, Bool, ◌&&◌, cond, List, leb, ltb, ℤ, pos, get_or}
use Rattle.rules.specs.Triangle.{sum_to}
use Rattle.table_cells.specs.Cells.{plain, styled, decimals_of}

-- the most of a value's size, 10^17, so that 64 of them can be added up
abbrev pub most_value : ℕ
most_value = 100000000000000000

-- the sum of column j over the rows of the body
unfoldable pub column_sum : List ℤ → ℕ → ℕ → ℕ → ℤ
column_sum values columns rows j = sum_to (λ i. get_or values (i * columns + j) (pos 0)) rows

-- whether column j has a total: columns from `first` on, before `end`, have one
unfoldable pub has_total : ℕ → ℕ → ℕ → Bool
has_total first end j = leb first j && ltb j end

-- the total's value in column j, 0 where it has none
unfoldable pub total_value : List ℤ → ℕ → ℕ → ℕ → ℕ → ℕ → ℤ
total_value values columns rows first end j = cond (has_total first end j) (column_sum values columns rows j) (pos 0)

-- and its style: unmarked, with the decimals of the first row's, or blank
unfoldable pub total_style : List ℕ → ℕ → ℕ → ℕ → ℕ
total_style styles first end j = cond (has_total first end j) (styled plain (decimals_of (get_or styles j 0))) 0
