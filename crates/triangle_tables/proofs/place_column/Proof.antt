-- Its cells stand in the grid (column_inside). Assumes nothing.
use Prim.Native.Nat.{◌+◌}
use native.Mathlib.Omega.{arith}
use Rattle.columns.proofs.Columns.{column_inside}
use Rattle.triangle_tables.specs.Tables.{column_of}
use Rattle.triangle_tables.proofs.Rooms.{rows_room}
use borrow.Author.Rules.{rules}
use Rattle.triangle_tables.proofs.place_column.Statement.{statement}
use Rattle.triangle_tables.proofs.place_column.Tie as tie

place-requires : tie.Need-place-requires
place-requires c κs =
    let s = c.before.before in (
      s.requires.1.1.1,
      (omega arith, λ m h. column_inside s.args.c (s.args.k + 1) s.args.j m s.requires.1.0 h (rows_room s.args.k s.args.c s.requires.0 s.requires.1.1.0)),
    )

returns : tie.Need-returns
unfolding column_of
returns c = c.place.ensures

pub place_column_spec : {M : Type 1} → statement M
place_column_spec = tie.close (tie.spec (λ c. search rules) place-requires returns)
