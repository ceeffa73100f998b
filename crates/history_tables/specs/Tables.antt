-- The tables of a history: a row for each position, labelled by its first origin year, at most sixteen rows a table, and all positions in tables one after another.
-- Assumes nothing.
use Rattle.std.specs.Prelude.{ℕ, ◌+◌, ◌-◌, ◌*◌, ◌/◌, min, Bool, false, List, [], ℤ}
use Rattle.rules.specs.Lists.{up_to, joined}
use Rattle.rules.specs.History.{position_count}
use Rattle.composing.specs.Text.{ascii}
use Rattle.table_heads.specs.declared.Shape.{Shape}
use Rattle.table.specs.Table.{table}
use Rattle.history_grid.specs.Grid.{grid_values, grid_styles}

-- n rows for the positions from the one of first origin year `label` on, a column for each year of the window and one for the number
unfoldable pub position_rows : ℕ → ℕ → ℕ → Shape
position_rows width label n = record { rows = n; columns = width + 1; years = width; from = label }

-- the table of n positions from position `from` on: their entries from `offset` on, with d decimals
unfoldable pub history_table : Bool → List ℕ → ℕ → List ℤ → ℕ → ℕ → ℕ → ℕ → ℕ → List ℕ
history_table html words first list width offset d from n =
    table html false words [] [] (position_rows width (first + from) n) (grid_values list width offset from n) (grid_styles list width d from n)

-- how many of so many positions stand in the table from position `from` on, and how many tables there are
unfoldable pub rows_from : ℕ → ℕ → ℕ
rows_from count from = min 16 (count - from)

unfoldable pub table_count : ℕ → ℕ
table_count count = (count + 15) / 16

-- all positions
unfoldable pub history_tables : Bool → List ℕ → ℕ → ℕ → ℕ → List ℤ → ℕ → ℕ → List ℕ
history_tables html words first years width list offset d =
    joined
    (up_to (λ t. history_table html words first list width offset d (16 * t) (rows_from (position_count years width) (16 * t))) (table_count (position_count years width)))

-- the captions, the head over the first origin years, and the head of the last column
unfoldable pub share_words : List ℕ
share_words = ascii "Shares by position and development year\nfirst origin year\nrefused by question\n"

unfoldable pub level_words : List ℕ
level_words = ascii "Levels by position and payment year, counted from the first of the window\nfirst origin year\nrefused by question\n"

-- the shares, with nine decimals, stand after the number, and the levels, with two, after the shares
unfoldable pub share_tables : Bool → ℕ → ℕ → ℕ → List ℤ → List ℕ
share_tables html first years width list = history_tables html share_words first years width list 1 9

unfoldable pub level_tables : Bool → ℕ → ℕ → ℕ → List ℤ → List ℕ
level_tables html first years width list = history_tables html level_words first years width list (1 + width) 2
