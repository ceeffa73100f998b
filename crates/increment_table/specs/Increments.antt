-- The table of the paid increments as given. Assumes nothing.
use Rattle.std.specs.Prelude.{ℕ, ◌+◌, Bool, List, ℤ}
use Rattle.composing.specs.Text.{ascii}
use Rattle.table_cells.specs.Cells.{plain, styled}
use Rattle.placing.specs.Placing.{Grid, blank, past_rows}
use Rattle.figure_places.specs.Places.{added_at}
use Rattle.triangle_tables.specs.Tables.{column_of, summed_table}

-- the increments up to the diagonal, and what is paid by origin year
unfoldable pub increment_grid : ℕ → List ℤ → Grid
increment_grid k xs =
    column_of (styled plain 0) (k + 1) (k + 2) (added_at k).paid k xs (past_rows (λ m. styled plain 0) (k + 2) (added_at k).increments k (k + 1) xs blank)

-- with the sums of all columns
unfoldable pub increment_table : Bool → ℕ → ℕ → List ℤ → List ℕ
increment_table html first k xs =
    summed_table html (ascii "Paid increments, by origin and development year\norigin year\ntotal\n") (ascii "total") first k (k + 2) 0 (increment_grid k xs)
