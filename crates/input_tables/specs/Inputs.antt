-- The tables of the inputs that are by one year: exposures, reporting shares, ULAE paid and indices, as given. Assumes nothing.
use Rattle.std.specs.Prelude.{ℕ, ◌+◌, Bool, List, [], ◌∷◌, ◌++◌, ℤ}
use Rattle.rules.specs.Lists.{padded}
use Rattle.composing.specs.Text.{ascii}
use Rattle.figure_places.specs.Places.{added_at}
use Rattle.column_table.specs.ColumnTable.{year_rows, column_table}

-- a table of one column: the k + 1 figures from place `start` on, with d decimals, and years from `from` on
unfoldable pub input_table : Bool → List ℕ → List ℕ → ℕ → ℕ → ℕ → ℕ → List ℤ → List ℕ
input_table html words total from d start k xs = column_table html words total (year_rows from (k + 1) 1) (padded 12 0 (start ∷ [])) (padded 12 0 (d ∷ [])) 0 1 xs

-- by origin year
unfoldable pub exposure_table : Bool → ℕ → ℕ → List ℤ → List ℕ
exposure_table html first k xs = input_table html (ascii "Exposures\norigin year\nclaims\n") (ascii "total") first 0 (added_at k).exposures k xs

-- by development year
unfoldable pub reporting_table : Bool → ℕ → List ℤ → List ℕ
reporting_table html k xs = input_table html (ascii "Reporting shares\ndevelopment year\nshare\n") (ascii "total") 0 6 (added_at k).reporting k xs

-- by payment year
unfoldable pub ulae_table : Bool → ℕ → ℕ → List ℤ → List ℕ
ulae_table html first k xs = input_table html (ascii "ULAE paid\npayment year\nULAE\n") (ascii "total") first 0 (added_at k).ulae k xs

-- by future year, without a total
unfoldable pub index_table : Bool → ℕ → ℕ → List ℤ → List ℕ
index_table html first k xs = input_table html (ascii "Indices\nfuture year\nindex\n") [] (first + k + 1) 6 (added_at k).indices k xs

-- one after another
unfoldable pub input_tables : Bool → ℕ → ℕ → List ℤ → List ℕ
input_tables html first k xs = exposure_table html first k xs ++ (reporting_table html k xs ++ (ulae_table html first k xs ++ index_table html first k xs))
