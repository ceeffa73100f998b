-- The triangle, and then the column (next). Assumes nothing.
use Prim.Native.Nat.{◌+◌}
use native.Mathlib.Omega.{arith}
use mathlib.Core.Path.{refl}
use Rattle.listing.specs.Starts.{starts_of}
use Rattle.table_cells.specs.Cells.{plain, styled}
use Rattle.placing.specs.Placing.{blank, past_rows}
use Rattle.figure_places.specs.Places.{added_at}
use Rattle.page_figures.proofs.Numbers.{numbers}
use Rattle.triangle_tables.specs.Tables.{column_of}
use Rattle.triangle_tables.proofs.Rooms.{rows_room, next}
use Rattle.increment_table.specs.Increments.{increment_grid}
use borrow.Author.Rules.{rules}
use Rattle.increment_table.proofs.fill_increments.Statement.{statement}
use Rattle.increment_table.proofs.fill_increments.Tie as tie

place-past-as-requires : tie.Need-place_past_as-requires
place-past-as-requires c κs =
    let a = c.before.before.before in
    let s = a.before in
    let n = numbers a.added_at-added.result (starts_of s.args.k) s.args.k s.requires.0 a.added_at-added.ensures refl in
    (s.requires.0, (omega arith, (omega arith, rows_room s.args.k (s.args.k + 2) s.requires.0 (omega arith))))

place-column-requires : tie.Need-place_column-requires
place-column-requires c κs =
    let a = c.before.before.before.before.before.before in
    let s = a.before in
    let n = numbers a.added_at-added.result (starts_of s.args.k) s.args.k s.requires.0 a.added_at-added.ensures refl in
    (s.requires.0, (omega arith, (omega arith, omega arith)))

returns : tie.Need-returns
unfolding increment_grid
returns c =
    let p = c.before.before.before in
    let style = p.before.before.before.styled-style.ensures in
    let at = p.before.before.before.before.added_at-added.ensures in
    let s = p.before.before.before.before.before in
    let xs = s.args.figures.now in
    let k = s.args.k in
    let past = next (past_rows (λ m. styled plain 0) (k + 2) (added_at k).increments k (k + 1) xs) blank s.requires.1 (rw (style, at) at p.place_past_as.ensures) in
    next (column_of (styled plain 0) (k + 1) (k + 2) (added_at k).paid k xs) (past_rows (λ m. styled plain 0) (k + 2) (added_at k).increments k (k + 1) xs blank) past (rw (style, at) at c.place_column.ensures)

pub fill_increments_spec : {M : Type 1} → statement M
fill_increments_spec =
    tie.close
    (tie.spec
    (λ c κs. search rules)
    (λ c κs. search rules)
    (λ c. search rules)
    place-past-as-requires
    (λ c. search rules)
    (λ c. search rules)
    place-column-requires
    returns)
