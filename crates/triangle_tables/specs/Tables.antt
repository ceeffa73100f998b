-- Tables of a triangle: a row for each origin year, from the first one on, and first of all a column for each development year 0 to k. Assumes nothing.
use Rattle.std.specs.Prelude.{ℕ, ◌+◌, Bool, false, List, [], ℤ}
use Rattle.table_cells.specs.Cells.{plain, future, styled}
use Rattle.table_heads.specs.declared.Shape.{Shape}
use Rattle.table.specs.Table.{table}
use Rattle.placing.specs.Placing.{Grid, placed_as, past_rows, future_rows, totalled}

-- amounts up to the diagonal from place `past` on, and amounts past it from place `ahead` on, which are marked
unfoldable pub square : ℕ → ℕ → ℕ → ℕ → List ℤ → Grid → Grid
square c past ahead k xs g = future_rows (styled future 0) c ahead k (k + 1) xs (past_rows (λ m. styled plain 0) c past k (k + 1) xs g)

-- column j of c, a figure for each origin year from place `start` on
unfoldable pub column_of : ℕ → ℕ → ℕ → ℕ → ℕ → List ℤ → Grid → Grid
column_of style j c start k xs g = placed_as style j c start (k + 1) xs g

-- the shape of a table of c columns
unfoldable pub triangle_shape : ℕ → ℕ → ℕ → Shape
triangle_shape first k c = record { rows = k + 1; columns = c; years = k + 1; from = first }

-- the table of a grid
unfoldable pub triangle_table : Bool → List ℕ → List ℕ → ℕ → ℕ → ℕ → Grid → List ℕ
triangle_table html words total first k c g = table html false words [] total (triangle_shape first k c) g.values g.styles

-- with the sums of the columns from column j on
unfoldable pub summed_table : Bool → List ℕ → List ℕ → ℕ → ℕ → ℕ → ℕ → Grid → List ℕ
summed_table html words total first k c j g = triangle_table html words total first k c (totalled (k + 1) c j c g)
