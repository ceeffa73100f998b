-- Columns of figures placed beside each other in the grid of a table. Assumes nothing.
use Rattle.std.specs.Prelude.{ℕ, zero, suc, List, ℤ, get_or}
use Rattle.table_cells.specs.Cells.{plain, styled}
use Rattle.placing.specs.Placing.{Grid, placed_as}

-- the columns before column j of a table of c columns: each has the n figures from its start on, with its decimals
unfoldable pub columns_up_to : ℕ → ℕ → List ℕ → List ℕ → ℕ → List ℤ → Grid → Grid
columns_up_to c n starts decimals zero xs g = g
columns_up_to c n starts decimals (suc j) xs g =
    placed_as (styled plain (get_or decimals j 0)) j c (get_or starts j 0) n xs (columns_up_to c n starts decimals j xs g)
