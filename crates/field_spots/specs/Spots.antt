-- The year or years of a field of a record of the years 0 to k. Assumes nothing.
use Rattle.std.specs.Prelude.{ℕ, ◌+◌, ◌-◌, cond, eqb, leb}
use Rattle.rules.specs.Triangle.{row_start}
use Rattle.entries.specs.Leading.{leading}
use Rattle.field_spots.specs.declared.Spot.{Spot}

-- the row i of cell m of the triangle, counted row by row: the first that ends after it
unfoldable pub cell_row : ℕ → ℕ → ℕ
cell_row k m = leading (λ i. leb (row_start k (i + 1)) m) k

abbrev pub spot : ℕ → ℕ → Spot
spot row column = record { row = row; column = column }

-- the year or years of field m of row r: an increment is that of cell i, j and a reporting share that of development year m; of the others the row is m, which is 0 where there is one alone
unfoldable pub spot_of : ℕ → ℕ → ℕ → Spot
spot_of k r m =
    cond (eqb r 2) (spot (cell_row k m) (m - row_start k (cell_row k m)))
    (cond (eqb r 4) (spot 0 m) (spot m 0))
