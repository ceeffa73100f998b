-- The tables of the levels by payment year, those found and the future ones. Assumes nothing.
use Rattle.std.specs.Prelude.{ℕ, ◌+◌, Bool, false, List, [], ℤ}
use Rattle.composing.specs.Text.{ascii}
use Rattle.table.specs.Table.{table}
use Rattle.placing.specs.Placing.{Grid, blank, totalled}
use Rattle.column_table.specs.ColumnTable.{year_rows}
use Rattle.level_columns.specs.LevelColumns.{placed_levels, placed_future}

-- captions, heads over the payment years, and heads of the columns
unfoldable pub level_words : List ℕ
level_words = ascii "Levels up to the latest year\npayment year\nlevel\nchange on the year before\n"

unfoldable pub future_words : List ℕ
future_words = ascii "Future levels and expected payments\npayment year\nindex\nlevel\nchange on the year before\nexpected payments\n"

-- the table of the levels found, without a total
unfoldable pub level_table : Bool → ℕ → ℕ → List ℤ → List ℕ
level_table html first k xs =
    table html false level_words [] [] (year_rows first (k + 1) 2) (placed_levels k xs blank).values (placed_levels k xs blank).styles

-- the future levels' grid with the total of the expected payments, and their table, from the year after year k on
unfoldable pub future_grid : ℕ → List ℤ → Grid
future_grid k xs = totalled (k + 1) 4 3 4 (placed_future k xs blank)

unfoldable pub future_table : Bool → ℕ → ℕ → List ℤ → List ℕ
future_table html first k xs =
    table html false future_words [] (ascii "total") (year_rows (first + k + 1) (k + 1) 4) (future_grid k xs).values (future_grid k xs).styles
