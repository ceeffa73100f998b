-- The sums of both tables are small. Assumes nothing.
use Prim.Native.Nat.{ℕ, ◌+◌, ◌<◌}
use native.Mathlib.Omega.{arith}
use mathlib.Core.Path.{refl}
use mathlib.Core.List.{List}
use lib.IntN.{ℤ}
use Rattle.rules.specs.Record.{cells}
use Rattle.listing.specs.Starts.{starts_of}
use Rattle.listing.proofs.Known.{known}
use Rattle.table_cells.specs.Cells.{plain, styled}
use Rattle.totals_row.specs.Totals.{most_value}
use Rattle.placing.specs.Placing.{blank, past_rows, Totalling}
use Rattle.placing.proofs.Small.{blank_small, past_small}
use Rattle.figure_places.specs.Places.{added_at}
use Rattle.page_figures.specs.Given.{most_shown, Figured}
use Rattle.page_figures.proofs.Numbers.{numbers}
use Rattle.page_figures.proofs.Bases.{sized_part}
use Rattle.triangle_tables.proofs.Small.{column_small}
use Rattle.shading.specs.Shading.{average_style, gap_style}
use Rattle.fit_tables.specs.Fit.{average_grid, gap_grid}

pub averages_small : (k : ℕ) (xs : List ℤ) → k < 16 → Figured k xs → Totalling (average_grid k xs)
unfolding average_grid
averages_small k xs h f =
    let n = numbers (added_at k) (starts_of k) k h refl refl in
    rw (known k).averages
    (past_small most_value (average_style k xs) (k + 1) 0 k (k + 1) xs blank (omega arith)
    (sized_part most_shown most_value ((added_at k).sums + (k + 1)) 0 (cells k) xs (omega arith) (omega arith) f.all) (blank_small most_value))

pub gaps_small : (k : ℕ) (xs : List ℤ) → k < 16 → Figured k xs → Totalling (gap_grid k xs)
unfolding gap_grid
gaps_small k xs h f =
    let n = numbers (added_at k) (starts_of k) k h refl refl in
    let all = (added_at k).sums + (k + 1) in
    column_small most_value (styled plain 2) (k + 1) (k + 2) (added_at k).sums k xs (past_rows (gap_style k xs) (k + 2) (added_at k).gaps k (k + 1) xs blank)
    (sized_part most_shown most_value all (added_at k).sums (k + 1) xs (omega arith) (omega arith) f.all)
    (past_small most_value (gap_style k xs) (k + 2) (added_at k).gaps k (k + 1) xs blank (omega arith)
    (sized_part most_shown most_value all (added_at k).gaps (cells k) xs (omega arith) (omega arith) f.all) (blank_small most_value))
