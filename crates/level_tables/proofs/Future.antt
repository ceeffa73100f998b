-- The future levels' grid has numbers small enough to be added up. Assumes nothing.
use Prim.Native.Nat.{ℕ, ◌+◌, ◌≤◌, ◌<◌}
use native.Mathlib.Omega.{arith}
use mathlib.Core.Path.{refl}
use mathlib.Core.List.{List}
use lib.IntN.{ℤ}
use Rattle.listing.specs.Starts.{starts_of}
use Rattle.table_cells.specs.Cells.{plain, styled}
use Rattle.totals_row.specs.Totals.{most_value}
use Rattle.placing.specs.Placing.{Grid, blank, Totalling}
use Rattle.placing.proofs.Small.{blank_small, placed_small}
use Rattle.figure_places.specs.Places.{added_at}
use Rattle.page_figures.specs.Given.{most_shown, Figured}
use Rattle.page_figures.proofs.Numbers.{numbers}
use Rattle.page_figures.proofs.Bases.{sized_part}
use Rattle.column_table.proofs.Places.{standing}
use Rattle.level_columns.specs.LevelColumns.{placed_column, placed_future}

-- one column more
column_small : (k d first c start n : ℕ) (xs : List ℤ) (g : Grid) → Figured k xs → start + n ≤ (added_at k).sums + (k + 1) → Totalling g → Totalling (placed_column d first c start n xs g)
column_small k d first c start n xs g f l h =
    placed_small most_value (λ m. styled plain d) first c start n xs g (sized_part most_shown most_value ((added_at k).sums + (k + 1)) start n xs (omega arith) l f.all) h

pub future_totalling : (k : ℕ) (xs : List ℤ) → k < 16 → Figured k xs → Totalling (placed_future k xs blank)
unfolding placed_future
future_totalling k xs h f =
    let here = standing k h in
    let there = numbers (added_at k) (starts_of k) k h refl refl in
    column_small k 0 3 4 (added_at k).expected (k + 1) xs _ f (omega arith)
    (column_small k 2 2 4 ((added_at k).changes + k) k xs _ f (omega arith)
    (column_small k 2 1 4 (starts_of k).ahead k xs _ f (omega arith) (column_small k 6 0 4 (added_at k).indices (k + 1) xs blank f (omega arith) (blank_small most_value))))
