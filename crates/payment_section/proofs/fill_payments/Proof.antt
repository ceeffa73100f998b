-- The square, and then the two columns (next). Assumes nothing.
use Prim.Native.Nat.{◌+◌}
use native.Mathlib.Omega.{arith}
use Rattle.listing.specs.Starts.{starts_of}
use Rattle.table_cells.specs.Cells.{plain, future, styled}
use Rattle.placing.specs.Placing.{blank}
use Rattle.figure_places.specs.Places.{added_at}
use Rattle.page_figures.proofs.Numbers.{Numbers, numbers}
use Rattle.triangle_tables.specs.Tables.{square, column_of}
use Rattle.triangle_tables.proofs.Rooms.{next}
use Rattle.payment_section.specs.Payments.{payment_grid}
use borrow.Author.Rules.{rules}
use Rattle.payment_section.proofs.fill_payments.Statement.{statement}
use Rattle.payment_section.proofs.fill_payments.Tie as tie

-- where all stands
places : (c : tie.After-added_at-added) → Numbers c.added_at-added.result c.before.starts_of-starts.result c.before.before.args.k
places c = numbers c.added_at-added.result c.before.starts_of-starts.result c.before.before.args.k c.before.before.requires.0 c.added_at-added.ensures c.before.starts_of-starts.ensures

place-square-requires : tie.Need-place_square-requires
place-square-requires c κs =
    let n = places c.before.before.before.before in
    (n.few, (omega arith, (omega arith, (omega arith, omega arith))))

place-column-requires : tie.Need-place_column-requires
place-column-requires c κs =
    let n = places c.before.before.before.before.before.before.before in
    (n.few, (omega arith, (omega arith, omega arith)))

place-column-requires-2 : tie.Need-place_column-requires-2
place-column-requires-2 c κs =
    let n = places c.before.before.before.before.before.before.before.before.before.before in
    (n.few, (omega arith, (omega arith, omega arith)))

returns : tie.Need-returns
unfolding payment_grid
returns c =
    let t = c.before.before.before in
    let b = t.before.before.before in
    let paid = b.before.before.before.styled-paid.ensures in
    let ahead = b.before.before.before.before.styled-ahead.ensures in
    let at = b.before.before.before.before.before.added_at-added.ensures in
    let starts = b.before.before.before.before.before.before.starts_of-starts.ensures in
    let s = b.before.before.before.before.before.before.before in
    let xs = s.args.figures.now in
    let k = s.args.k in
    let body = square (k + 3) (added_at k).increments (starts_of k).payments k xs in
    let tails = column_of (styled future 0) (k + 1) (k + 3) (starts_of k).tails k xs in
    let placed = next body blank s.requires.1 (rw (at, starts) at b.place_square.ensures) in
    let more = next tails (body blank) placed (rw (ahead, starts) at t.place_column.ensures) in
    next (column_of (styled plain 0) (k + 2) (k + 3) (added_at k).ultimates k xs) (tails (body blank)) more (rw (paid, at) at c.place_column-2.ensures)

pub fill_payments_spec : {M : Type 1} → statement M
fill_payments_spec =
    tie.close
    (tie.spec
    (λ c κs. search rules)
    (λ c κs. search rules)
    (λ c κs. search rules)
    (λ c κs. search rules)
    (λ c. search rules)
    place-square-requires
    (λ c. search rules)
    place-column-requires
    (λ c. search rules)
    place-column-requires-2
    returns)
