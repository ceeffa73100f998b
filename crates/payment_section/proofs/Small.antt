-- The sums of the payments' table are small. Assumes nothing.
use Prim.Native.Nat.{ℕ, ◌+◌, ◌<◌}
use native.Mathlib.Omega.{arith}
use mathlib.Core.Path.{refl}
use mathlib.Core.List.{List}
use lib.IntN.{ℤ}
use Rattle.rules.specs.Record.{cells}
use Rattle.rules.specs.Triangle.{future_start}
use Rattle.listing.specs.Starts.{starts_of}
use Rattle.table_cells.specs.Cells.{plain, future, styled}
use Rattle.totals_row.specs.Totals.{most_value}
use Rattle.placing.specs.Placing.{blank, Totalling}
use Rattle.placing.proofs.Small.{blank_small}
use Rattle.figure_places.specs.Places.{added_at}
use Rattle.page_figures.specs.Given.{most_shown, Figured}
use Rattle.page_figures.proofs.Numbers.{numbers}
use Rattle.page_figures.proofs.Bases.{sized_part}
use Rattle.triangle_tables.specs.Tables.{square, column_of}
use Rattle.triangle_tables.proofs.Small.{square_small, column_small}
use Rattle.payment_section.specs.Payments.{payment_grid}

pub payments_small : (k : ℕ) (xs : List ℤ) → k < 16 → Figured k xs → Totalling (payment_grid k xs)
unfolding payment_grid
payments_small k xs h f =
    let n = numbers (added_at k) (starts_of k) k h refl refl in
    let all = (added_at k).sums + (k + 1) in
    let body = square (k + 3) (added_at k).increments (starts_of k).payments k xs blank in
    column_small most_value (styled plain 0) (k + 2) (k + 3) (added_at k).ultimates k xs (column_of (styled future 0) (k + 1) (k + 3) (starts_of k).tails k xs body)
    (sized_part most_shown most_value all (added_at k).ultimates (k + 1) xs (omega arith) (omega arith) f.all)
    (column_small most_value (styled future 0) (k + 1) (k + 3) (starts_of k).tails k xs body
    (sized_part most_shown most_value all (starts_of k).tails (k + 1) xs (omega arith) (omega arith) f.all)
    (square_small most_value (k + 3) (added_at k).increments (starts_of k).payments k xs blank
    (sized_part most_shown most_value all (added_at k).increments (cells k) xs (omega arith) (omega arith) f.all)
    (sized_part most_shown most_value all (starts_of k).payments (future_start (k + 1)) xs (omega arith) (omega arith) f.all) (blank_small most_value)))
