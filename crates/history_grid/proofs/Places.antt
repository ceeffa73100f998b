-- A place of the grid: its row and its column. Assumes nothing.
use Prim.Native.Nat.{ℕ, ◌+◌, ◌*◌, ◌/◌, ◌%◌, ◌≤◌, ◌<◌}
use native.Mathlib.Nat.{div-lt_iff_lt-mul, mod-lt, mul-le-mul}
use native.Mathlib.Omega.{arith}
use Rattle.history_places.specs.Places.{Inside}
use Rattle.history_grid.specs.Grid.{Rows}

module _ (width from n : ℕ) (rows : Rows width from n) where
  -- the grid has room for all
  pub places_most : n * (width + 1) ≤ 272
  places_most = mul-le-mul {n₂ = 16} {m₂ = 17} rows.rows_most (omega (arith, rows.width_most_lem))

  module _ (p : ℕ) (h : p < n * (width + 1)) where
    pub row_few : p / (width + 1) < n
    row_few = (div-lt_iff_lt-mul {k = width + 1} {x = p} {y = n} (omega arith)).1 h

    pub row_inside : Inside width (from + p / (width + 1))
    row_inside = (omega (arith, row_few, rows.inside), rows.width_most_lem)

    pub column_few : p % (width + 1) ≤ width
    column_few = omega (arith, mod-lt p {m = width + 1} (omega arith))
