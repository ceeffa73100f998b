-- The tables of the averages and of what is observed less what is fitted. Assumes nothing.
use Rattle.std.specs.Prelude.{ℕ, ◌+◌, Bool, List, ℤ}
use Rattle.rules.specs.Results.{average_section, section_start}
use Rattle.composing.specs.Text.{ascii}
use Rattle.table_cells.specs.Cells.{plain, styled}
use Rattle.placing.specs.Placing.{Grid, blank, past_rows}
use Rattle.figure_places.specs.Places.{added_at}
use Rattle.shading.specs.Shading.{average_style, gap_style}
use Rattle.triangle_tables.specs.Tables.{column_of, summed_table}

-- the averages up to the diagonal, marked by their sizes
unfoldable pub average_grid : ℕ → List ℤ → Grid
average_grid k xs = past_rows (average_style k xs) (k + 1) (section_start k average_section) k (k + 1) xs blank

-- with the sums of all columns
unfoldable pub average_table : Bool → ℕ → ℕ → List ℤ → List ℕ
average_table html first k xs =
    summed_table html (ascii "Averages, by origin and development year\norigin year\n") (ascii "total") first k (k + 1) 0 (average_grid k xs)

-- the gaps up to the diagonal, marked by how far they are from the fitted values, and their sums by origin year
unfoldable pub gap_grid : ℕ → List ℤ → Grid
gap_grid k xs =
    column_of (styled plain 2) (k + 1) (k + 2) (added_at k).sums k xs (past_rows (gap_style k xs) (k + 2) (added_at k).gaps k (k + 1) xs blank)

-- with the sums of all columns
unfoldable pub gap_table : Bool → ℕ → ℕ → List ℤ → List ℕ
gap_table html first k xs =
    summed_table html (ascii "Observed less fitted, by origin and development year\norigin year\nsum\n") (ascii "sum") first k (k + 2) 0 (gap_grid k xs)
