-- Lists of the totals of a square of averages. Assumes nothing.
use Rattle.std.specs.Prelude.{ℕ, List, ℤ}
use Rattle.rules.specs.Triangle.{ZeroOutside, TotalsIn}
use Rattle.totals.specs.CellSizes.{Cells}

-- these are the totals of the columns and of the diagonals of s, a square of the years 0 to k whose cells are within their limit
pub record Summed (s : List (List ℤ)) (k : ℕ) (columns diagonals : List ℤ) : Type 0 where
  pub cells : Cells s
  pub outside : ZeroOutside s k
  pub totals : TotalsIn s columns diagonals
