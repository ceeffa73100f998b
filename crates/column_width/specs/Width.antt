-- The width of a column of a table as text. Assumes nothing.
use Rattle.std.specs.Prelude.{ℕ, ◌+◌, max, List, ℤ, length}
use Rattle.table_cells.specs.Cells.{column_places}
use Rattle.table_heads.specs.Heads.{head, rows_in}
use Rattle.table_heads.specs.declared.Shape.{Shape}

-- the width of column j: two more than the longest of its head and its cells
unfoldable pub column_width : List ℕ → List ℕ → Shape → List ℤ → List ℕ → ℕ → ℕ
column_width words total shape values styles j =
    2 + max (length (head words shape j)) (column_places values styles shape.columns (rows_in total shape) j)
