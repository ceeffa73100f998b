-- The section of the payments, paid and completed. Assumes nothing.
use Rattle.std.specs.Prelude.{ℕ, ◌+◌, Bool, List, ◌++◌, ℤ}
use Rattle.listing.specs.Starts.{starts_of}
use Rattle.composing.specs.Text.{ascii}
use Rattle.parts.specs.Parts.{only, section_head, section_end}
use Rattle.table_cells.specs.Cells.{plain, future, styled}
use Rattle.placing.specs.Placing.{Grid, blank}
use Rattle.figure_places.specs.Places.{added_at}
use Rattle.triangle_tables.specs.Tables.{square, column_of, summed_table}

-- the increments up to the diagonal, the completed payments past it, the tail payments and the ultimates
unfoldable pub payment_grid : ℕ → List ℤ → Grid
payment_grid k xs =
    column_of (styled plain 0) (k + 2) (k + 3) (added_at k).ultimates k xs
    (column_of (styled future 0) (k + 1) (k + 3) (starts_of k).tails k xs (square (k + 3) (added_at k).increments (starts_of k).payments k xs blank))

-- with the sums of the last two columns
unfoldable pub payment_table : Bool → ℕ → ℕ → List ℤ → List ℕ
payment_table html first k xs =
    summed_table html (ascii "Payments, by origin and development year\norigin year\ntail\nultimate\n") (ascii "total") first k (k + 3) (k + 1) (payment_grid k xs)

unfoldable pub payments_section : Bool → ℕ → ℕ → List ℤ → List ℕ
payments_section html first k xs =
    section_head html (ascii "Payments, paid and completed")
    ++ (only html (ascii "<p>Shaded: completed and tail payments, still to be made; their sum is the origin year's provision. Unshaded: paid, as given.</p>\n")
    ++ (payment_table html first k xs ++ section_end html))
