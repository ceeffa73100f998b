-- Past the diagonal after up to it (next). Assumes nothing.
use Prim.Native.Nat.{◌+◌}
use Rattle.table_cells.specs.Cells.{plain, future, styled}
use Rattle.placing.specs.Placing.{grid, past_rows, future_rows}
use Rattle.triangle_tables.specs.Tables.{square}
use Rattle.triangle_tables.proofs.Rooms.{rows_room, next}
use borrow.Author.Rules.{rules}
use Rattle.triangle_tables.proofs.place_square.Statement.{statement}
use Rattle.triangle_tables.proofs.place_square.Tie as tie

place-past-as-requires : tie.Need-place_past_as-requires
place-past-as-requires c κs =
    let s = c.before.before.before in
    (s.requires.0, (s.requires.1.1.1.0, (s.requires.1.0, rows_room s.args.k s.args.c s.requires.0 s.requires.1.1.0)))

place-future-requires : tie.Need-place_future-requires
place-future-requires c κs =
    let s = c.before.before.before.before.before.before.before in
    (s.requires.0, (s.requires.1.1.1.1, (s.requires.1.0, rows_room s.args.k s.args.c s.requires.0 s.requires.1.1.0)))

returns : tie.Need-returns
unfolding square
returns c =
    let p = c.before.before.before.before in
    let s = p.before.before.before.before in
    let xs = s.args.figures.now in
    let g = grid s.args.values.now s.args.styles.now in
    next (future_rows (styled future 0) s.args.c s.args.ahead s.args.k (s.args.k + 1) xs) (past_rows (λ m. styled plain 0) s.args.c s.args.past s.args.k (s.args.k + 1) xs g)
    (rw p.before.styled.ensures at p.place_past_as.ensures)
    (rw c.before.styled-2.ensures at c.place_future.ensures)

pub place_square_spec : {M : Type 1} → statement M
place_square_spec = tie.close (tie.spec (λ c κs. search rules) place-past-as-requires (λ c κs. search rules) place-future-requires returns)
