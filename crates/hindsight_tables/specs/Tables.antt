-- The tables of a hindsight run: its settings, the sums of its steps by setting, and the gaps of one setting as a triangle. Assumes nothing.
use Rattle.std.specs.Prelude.{ℕ, ◌+◌, Bool, false, List, [], ℤ}
use Rattle.composing.specs.Text.{ascii}
use Rattle.table_heads.specs.declared.Shape.{Shape}
use Rattle.table.specs.Table.{table}
use Rattle.hindsight_cells.specs.Cells.{settings_table, steps_table, gaps_table, rows_of, columns_of}
use Rattle.hindsight_grid.specs.Grid.{grid_values, grid_styles}
use Rattle.hindsight_heads.specs.Heads.{steps_words}

-- table t, whose rows are labelled by the numbers from `label` on, and whose first `years` columns are development years
unfoldable pub grid_shape : ℕ → ℕ → ℕ → ℕ → ℕ → Shape
grid_shape k n t years label = record { rows = rows_of t k n; columns = columns_of t k n; years = years; from = label }

unfoldable pub grid_table : Bool → List ℕ → ℕ → ℕ → List ℤ → List ℕ → ℕ → ℕ → ℕ → ℕ → List ℕ
grid_table html words years label list settings k n a t =
    table html false words [] [] (grid_shape k n t years label) (grid_values list settings k n a t) (grid_styles list k n t)

-- the settings, counted from 1
unfoldable pub settings_words : List ℕ
settings_words = ascii "Settings tried\nsetting\nindex\nsum of absolute gaps\n"

unfoldable pub settings_rows : Bool → List ℤ → List ℕ → ℕ → ℕ → List ℕ
settings_rows html list settings k n = grid_table html settings_words 0 1 list settings k n 0 settings_table

-- the steps by the payment year that they forecast: h + 1 for step h, from 1 on
unfoldable pub steps_rows : Bool → ℕ → List ℤ → List ℕ → ℕ → ℕ → List ℕ
steps_rows html first list settings k n = grid_table html (steps_words n) 0 (first + 2) list settings k n 0 steps_table

-- the gaps with setting a, by origin year from 1 on
unfoldable pub gaps_words : List ℕ
gaps_words = ascii "Gaps by origin and development year: payment minus forecast\norigin year\n"

unfoldable pub gaps_rows : Bool → ℕ → List ℤ → List ℕ → ℕ → ℕ → ℕ → List ℕ
gaps_rows html first list settings k n a = grid_table html gaps_words k (first + 1) list settings k n a gaps_table
