-- Columns placed one after another. Assumes nothing.
use Prim.Native.Nat.{ℕ, suc, ◌+◌, ◌*◌, ◌≤◌, ◌<◌}
use native.Mathlib.Numerals.{add-one}
use native.Mathlib.Nat.{mul-le-mul_right}
use native.Mathlib.Omega.{arith}
use mathlib.Core.Path.{◌≡◌, refl}
use mathlib.Core.List.{List}
use lib.IntN.{ℤ}
use lib.ListN.{get_or}
use Rattle.table_cells.specs.Cells.{most_places, plain, styled}
use Rattle.placing.specs.Placing.{Grid, placed_as}
use Rattle.columns.specs.Columns.{columns_up_to}

-- one column more
pub column_more : (c n : ℕ) (starts decimals : List ℕ) (j : ℕ) (xs : List ℤ) (g : Grid)
    → placed_as (styled plain (get_or decimals j 0)) j c (get_or starts j 0) n xs (columns_up_to c n starts decimals j xs g) ≡ columns_up_to c n starts decimals (j + 1) xs g
unfolding columns_up_to
column_more c n starts decimals j xs g = rw (add-one j)

-- a cell of column j stands in the grid
pub column_inside : (c n j m : ℕ) → j < c → m < n → n * c ≤ most_places → j + m * c < most_places
column_inside c n j m h l most =
    let rows : (m + 1) * c ≤ n * c = mul-le-mul_right c (omega arith) in
    omega arith
