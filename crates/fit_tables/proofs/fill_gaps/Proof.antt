-- The triangle with its styles (shaded), and then the column (next). Assumes nothing.
use Prim.Native.Nat.{◌+◌}
use native.Mathlib.Omega.{arith}
use mathlib.Core.Path.{refl}
use Rattle.listing.specs.Starts.{starts_of}
use Rattle.table_cells.specs.Cells.{plain, styled}
use Rattle.placing.specs.Placing.{blank, past_rows}
use Rattle.figure_places.specs.Places.{added_at}
use Rattle.page_figures.proofs.Numbers.{Numbers, numbers}
use Rattle.shading.specs.Shading.{gap_style}
use Rattle.triangle_tables.specs.Tables.{column_of}
use Rattle.triangle_tables.proofs.Rooms.{rows_room, next}
use Rattle.fit_tables.specs.Fit.{gap_grid}
use Rattle.fit_tables.proofs.Shaded.{shaded}
use borrow.Author.Rules.{rules}
use Rattle.fit_tables.proofs.fill_gaps.Statement.{statement}
use Rattle.fit_tables.proofs.fill_gaps.Tie as tie

-- where all stands
places : (c : tie.After-added_at-added) → Numbers c.added_at-added.result (starts_of c.before.args.k) c.before.args.k
places c = numbers c.added_at-added.result (starts_of c.before.args.k) c.before.args.k c.before.requires.0 c.added_at-added.ensures refl

place-past-requires : tie.Need-place_past-requires
place-past-requires c κs =
    let a = c.before.before.before.before.before in
    let n = places a in
    let k = a.before.args.k in
    (n.few, (omega arith, (omega arith, rows_room k (k + 2) n.few (omega arith))))

place-column-requires : tie.Need-place_column-requires
place-column-requires c κs =
    let n = places c.before.before.before.before.before.before.before.before in
    (n.few, (omega arith, (omega arith, omega arith)))

returns : tie.Need-returns
unfolding gap_grid
returns c =
    let p = c.before.before.before in
    let style = p.before.before.before.before.styled-style.ensures in
    let kinds = p.before.before.before.before.before.gap_styles-kinds.ensures in
    let at = p.before.before.before.before.before.before.added_at-added.ensures in
    let s = p.before.before.before.before.before.before.before in
    let xs = s.args.figures.now in
    let k = s.args.k in
    let triangle = shaded (gap_style k xs) (k + 2) (added_at k).gaps k xs kinds s.requires.1.1 (rw at at p.place_past.ensures) in
    next (column_of (styled plain 2) (k + 1) (k + 2) (added_at k).sums k xs) (past_rows (gap_style k xs) (k + 2) (added_at k).gaps k (k + 1) xs blank) triangle (rw (style, at) at c.place_column.ensures)

pub fill_gaps_spec : {M : Type 1} → statement M
fill_gaps_spec =
    tie.close
    (tie.spec
    (λ c κs. search rules)
    (λ c κs. search rules)
    (λ c κs. search rules)
    (λ c. search rules)
    place-past-requires
    (λ c. search rules)
    (λ c. search rules)
    place-column-requires
    returns)
