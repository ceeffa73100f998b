-- A place of the grid: its row and its column. Assumes nothing.
use Prim.Native.Nat.{ℕ, ◌*◌, ◌/◌, ◌%◌, ◌≤◌, ◌<◌}
use native.Mathlib.Nat.{div-lt_iff_lt-mul, mod-lt, mul-le-mul}
use Rattle.rules.specs.Hindsight.{most_settings}
use Rattle.hindsight_places.specs.Places.{LastYear}
use Rattle.hindsight_cells.specs.Cells.{rows_of, columns_of}
use Rattle.hindsight_cells.proofs.Sizes.{rows_most, columns_most, columns_least}

module _ (t k n : ℕ) (known : LastYear k) (few : n ≤ most_settings) where
  -- the grid has room for all
  pub places_most : rows_of t k n * columns_of t k n ≤ 210
  places_most = mul-le-mul {n₂ = 14} {m₂ = 15} (rows_most t k n known few) (columns_most t k n known few)

  module _ (p : ℕ) (h : p < rows_of t k n * columns_of t k n) where
    pub row_few : p / columns_of t k n < rows_of t k n
    row_few = (div-lt_iff_lt-mul {k = columns_of t k n} {x = p} {y = rows_of t k n} (columns_least t k n known few)).1 h

    pub column_few : p % columns_of t k n < columns_of t k n
    column_few = mod-lt p {m = columns_of t k n} (columns_least t k n known few)
