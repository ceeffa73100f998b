-- Positions of a history in the grid of a table, a row each: the entries of a position from `offset` on, its shares or its levels, and then the number of one that is
-- refused, whose other cells are blank. Assumes nothing.
use Rattle.std.specs.Prelude.{ℕ, ◌+◌, ◌*◌, ◌/◌, ◌%◌, ◌≤◌, cond, List, eqb, ℤ, pos}
use Rattle.rules.specs.Lists.{up_to, padded}
use Rattle.rules.specs.History.{most_history, most_width}
use Rattle.table_cells.specs.Cells.{most_places, plain, styled}
use Rattle.history_places.specs.Places.{position_entry, refused}

-- the value in column j of position a
unfoldable pub cell_value : List ℤ → ℕ → ℕ → ℕ → ℕ → ℤ
cell_value list width offset a j = cond (eqb j width) (position_entry list width a 0) (position_entry list width a (offset + j))

-- and its style: d decimals, or blank where the position is refused; a number where it is
unfoldable pub cell_style : List ℤ → ℕ → ℕ → ℕ → ℕ → ℕ
cell_style list width d a j = cond (refused list width a) (cond (eqb j width) (styled plain 0) 0) (cond (eqb j width) 0 (styled plain d))

-- the values and the styles of n positions from position `from` on, row by row, width + 1 columns each
unfoldable pub grid_values : List ℤ → ℕ → ℕ → ℕ → ℕ → List ℤ
grid_values list width offset from n =
    padded most_places (pos 0) (up_to (λ p. cell_value list width offset (from + p / (width + 1)) (p % (width + 1))) (n * (width + 1)))

unfoldable pub grid_styles : List ℤ → ℕ → ℕ → ℕ → ℕ → List ℕ
grid_styles list width d from n =
    padded most_places 0 (up_to (λ p. cell_style list width d (from + p / (width + 1)) (p % (width + 1))) (n * (width + 1)))

-- at most sixteen positions of the longest history
pub record Rows (width from n : ℕ) : Type 0 where
  pub width_most_lem : width ≤ most_width
  pub rows_most : n ≤ 16
  pub inside : from + n + width ≤ most_history + 1
