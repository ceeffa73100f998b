-- The square, and then the factors in the row after it (next). Assumes nothing.
use Prim.Native.Nat.{◌+◌, ◌*◌, ◌≤◌}
use native.Mathlib.Nat.{mul-one}
use native.Mathlib.Omega.{arith}
use mathlib.Core.Path.{◌≡◌, ◌∙◌}
use Rattle.rules.specs.Record.{cells}
use Rattle.listing.specs.Starts.{starts_of}
use Rattle.listing.proofs.Known.{known, at_starts}
use Rattle.table_cells.specs.Cells.{plain, styled}
use Rattle.placing.specs.Placing.{blank, placed_as}
use Rattle.figure_places.specs.Places.{added_at}
use Rattle.page_figures.proofs.Numbers.{Numbers, numbers}
use Rattle.triangle_tables.specs.Tables.{square}
use Rattle.triangle_tables.proofs.Rooms.{room, next}
use Rattle.ladder_section.specs.Ladder.{ladder_grid}
use borrow.Author.Rules.{rules}
use Rattle.ladder_section.proofs.fill_ladder.Statement.{statement}
use Rattle.ladder_section.proofs.fill_ladder.Tie as tie

-- where all stands, the factors too
places : (c : tie.After-added_at-added) → Numbers c.added_at-added.result c.before.starts_of-starts.result c.before.before.args.k
places c = numbers c.added_at-added.result c.before.starts_of-starts.result c.before.before.args.k c.before.before.requires.0 c.added_at-added.ensures c.before.starts_of-starts.ensures

factors-place : (c : tie.After-starts_of-starts) → c.starts_of-starts.result.factors ≡ 2 * cells c.before.args.k + 4 * (c.before.args.k + 1) + c.before.args.k + 3
factors-place c = (at_starts c.starts_of-starts.result c.before.args.k c.starts_of-starts.ensures).factors ∙ (known c.before.args.k).factors

-- the row after the square has places
row_room : (s : tie.Start) → (s.args.k + 1) * (s.args.k + 1) + (s.args.k + 1) ≤ 320
row_room s = omega (arith, room s.args.k (s.args.k + 1) s.requires.0 (omega arith))

place-square-requires : tie.Need-place_square-requires
place-square-requires c κs =
    let n = places c.before.before.before in
    (n.few, (omega arith, (omega arith, (omega arith, omega arith))))

mul-place : tie.Need-overflow_mul-n
mul-place c = omega (arith, row_room c.before.before.before.before.before.before.before.before)

place-requires : tie.Need-place-requires
place-requires c κs =
    let a = c.before.before.before.before.before.before in
    let n = places a in
    let s = a.before.before in
    (omega (arith, factors-place a.before), (omega arith, λ m h. rw (mul-one m) (omega (arith, row_room s))))

returns : tie.Need-returns
unfolding ladder_grid
returns c =
    let b = c.before.before.before in
    let style = b.before.before.before.styled-style.ensures in
    let at = b.before.before.before.before.added_at-added.ensures in
    let starts = b.before.before.before.before.before.starts_of-starts.ensures in
    let s = b.before.before.before.before.before.before in
    let xs = s.args.figures.now in
    let k = s.args.k in
    let body = square (k + 1) (added_at k).cumulatives (starts_of k).completed k xs in
    next (placed_as (styled plain 6) ((k + 1) * (k + 1)) 1 (starts_of k).factors k xs) (body blank) (next body blank s.requires.1 (rw (at, starts) at b.place_square.ensures))
    (rw (style, starts) at c.place.ensures)

pub fill_ladder_spec : {M : Type 1} → statement M
fill_ladder_spec =
    tie.close
    (tie.spec
    (λ c κs. search rules)
    (λ c κs. search rules)
    (λ c κs. search rules)
    (λ c. search rules)
    place-square-requires
    mul-place
    place-requires
    returns)
