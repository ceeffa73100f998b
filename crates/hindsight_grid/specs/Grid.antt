-- The tables of a hindsight run in the grid of a table, row by row. Assumes nothing.
use Rattle.std.specs.Prelude.{ℕ, ◌*◌, ◌/◌, ◌%◌, List, ℤ, pos}
use Rattle.rules.specs.Lists.{up_to, padded}
use Rattle.table_cells.specs.Cells.{most_places}
use Rattle.hindsight_cells.specs.Cells.{cell_value, cell_style, rows_of, columns_of}

-- the values and the styles of table t
unfoldable pub grid_values : List ℤ → List ℕ → ℕ → ℕ → ℕ → ℕ → List ℤ
grid_values list settings k n a t =
    padded most_places (pos 0) (up_to (λ p. cell_value list settings k n a t (p / columns_of t k n) (p % columns_of t k n)) (rows_of t k n * columns_of t k n))

unfoldable pub grid_styles : List ℤ → ℕ → ℕ → ℕ → List ℕ
grid_styles list k n t =
    padded most_places 0 (up_to (λ p. cell_style list k n t (p / columns_of t k n) (p % columns_of t k n)) (rows_of t k n * columns_of t k n))
