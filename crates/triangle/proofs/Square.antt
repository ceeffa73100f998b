-- How large a cell of the square of averages is. Assumes nothing.
use Prim.Native.Nat.{ℕ, ◌+◌, ◌≤◌, ◌<◌}
use native.Mathlib.Decide.{dec_le}
use native.Mathlib.Omega.{arith}
use mathlib.Core.List.{List}
use lib.IntN.{ℤ, nat_abs}
use lib.ListN.{get_or}
use Rattle.rules.specs.Triangle.{paid_of, averages_of, cell_of}
use Rattle.totals.proofs.Square.{cell_inside, zero_outside}
use Rattle.totals.specs.CellSizes.{most_average, Cells}
use Rattle.triangle.specs.Columns.{Increments, Exposures}
use Rattle.averages.proofs.Rounding.{average_most}
use Rattle.triangle.proofs.Cumulatives.{increment_most}

module _ (k : ℕ) (n : List ℕ) (p : List ℤ) where
  -- no cell's size is above 10^12
  pub cells_bounded : k < 16 → Exposures k n → Increments p → Cells (averages_of k n p)
  cells_bounded l counts amounts i j = go (dec_le (i + j) k)
    where
      go : Dec (i + j ≤ k) → nat_abs (cell_of (averages_of k n p) i j) ≤ most_average
      go (yes a) = rw (cell_inside k n p i j a l) (average_most (paid_of k p i j) (get_or n i 0) (increment_most k p i amounts j) (counts i (omega arith)).0)
      go (no a) = rw (zero_outside k n p l i j (omega arith)) (omega arith)
