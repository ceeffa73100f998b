-- Where the rows of a table stand, and how many there are. Assumes nothing.
use mathlib.Core.Path.{◌≡◌}
use mathlib.Core.Bool.{Bool, true, false, cond}
use mathlib.Core.List.{List}
use Prim.Native.Nat.{ℕ, ◌+◌, ◌*◌, ◌≤◌}
use native.Mathlib.Nat.{mul-le-mul_right}
use native.Mathlib.Omega.{arith}
use lib.Dec.{eqb}
use lib.ListN.{length}
use Rattle.table_heads.specs.Heads.{Fits, rows_in}
use Rattle.table_heads.specs.declared.Shape.{Shape}

-- a row of the body, or the total after it, is within the arrays
pub row_room : (shape : Shape) (i : ℕ) → Fits shape → i ≤ shape.rows → i * shape.columns + shape.columns ≤ 320
row_room shape i fits h = omega (arith, fits.places_most, mul-le-mul_right shape.columns h)

-- at most one row more than the body has
pub rows_in_most : (total : List ℕ) (shape : Shape) → rows_in total shape ≤ shape.rows + 1
unfolding rows_in
rows_in_most total shape = go (eqb (length total) 0)
  where
    go : (b : Bool) → shape.rows + cond b 0 1 ≤ shape.rows + 1
    go true = omega arith
    go false = omega arith

-- and all are within the arrays
pub rows_in_room : (total : List ℕ) (shape : Shape) → Fits shape → rows_in total shape * shape.columns ≤ 320
rows_in_room total shape fits = omega (arith, fits.places_most, mul-le-mul_right shape.columns (rows_in_most total shape))
