-- The columns of the tables of the levels by payment year, those found and the future ones. Assumes nothing.
use Rattle.std.specs.Prelude.{ℕ, ◌+◌, List, ℤ}
use Rattle.listing.specs.Starts.{starts_of}
use Rattle.figure_places.specs.Places.{added_at}
use Rattle.table_cells.specs.Cells.{plain, styled}
use Rattle.placing.specs.Placing.{Grid, placed_as}

-- n figures with d decimals from place `start` on, below each other from place `first` on in a table of c columns
abbrev pub placed_column : ℕ → ℕ → ℕ → ℕ → ℕ → List ℤ → Grid → Grid
placed_column d first c start n xs g = placed_as (styled plain d) first c start n xs g

-- the levels found, and the changes on the year before from the second row on
unfoldable pub placed_levels : ℕ → List ℤ → Grid → Grid
placed_levels k xs g = placed_column 2 3 2 (added_at k).changes k xs (placed_column 2 0 2 (starts_of k).levels (k + 1) xs g)

-- the indices and the expected payments of k + 1 years, and the future levels with their changes, those after the first k, of k years
unfoldable pub placed_future : ℕ → List ℤ → Grid → Grid
placed_future k xs g =
    placed_column 0 3 4 (added_at k).expected (k + 1) xs
    (placed_column 2 2 4 ((added_at k).changes + k) k xs (placed_column 2 1 4 (starts_of k).ahead k xs (placed_column 6 0 4 (added_at k).indices (k + 1) xs g)))
