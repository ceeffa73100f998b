-- Its shape has places (room). Assumes nothing.
use native.Mathlib.Omega.{arith}
use Rattle.triangle_tables.specs.Tables.{triangle_shape, triangle_table}
use Rattle.triangle_tables.proofs.Rooms.{room}
use borrow.Author.Rules.{rules}
use Rattle.triangle_tables.proofs.put_triangle_table.Statement.{statement}
use Rattle.triangle_tables.proofs.put_triangle_table.Tie as tie

put-table-requires : tie.Need-put_table-requires
put-table-requires c κs =
    let s = c.before.before.before.before.before.before in
    record {
      columns_most = omega arith;
      places_most = room s.args.k s.args.c s.requires.0 s.requires.1.1;
      rows_most = omega arith;
      from_most = omega arith;
    }

returns : tie.Need-returns
unfolding triangle_table triangle_shape
returns c = c.before.before.put_table.ensures

pub put_triangle_table_spec : {M : Type 1} → statement M
put_triangle_table_spec =
    tie.close
    (tie.spec
    (λ c. search rules)
    (λ c. search rules)
    put-table-requires
    (λ c. search rules)
    returns)
