-- The places, the styles and the words are those of the table. Assumes nothing.
use native.Mathlib.Omega.{arith}
use mathlib.Core.Path.{refl}
use Rattle.rules.specs.Lists.{padded, joined, every}
use Rattle.table_cells.specs.Cells.{styled}
use Rattle.picked_table.specs.Picked.{places_of, kinds_of}
use Rattle.picked_table.proofs.Picked.{picks}
use Rattle.single_tables.specs.Singles.{single_rows, single_table}
use borrow.Author.Rules.{rules}
use Rattle.single_tables.proofs.put_single_table.Statement.{statement}
use Rattle.single_tables.proofs.put_single_table.Tie as tie

put-picked-table-requires : tie.Need-put_picked_table-requires
unfolding every
put-picked-table-requires c κs = picks _ _ (omega arith) (omega arith) (omega arith) refl

returns : tie.Need-returns
unfolding single_table single_rows places_of kinds_of padded joined styled
returns c = c.before.before.put_picked_table.ensures

pub put_single_table_spec : {M : Type 1} → statement M
put_single_table_spec =
    tie.close
    (tie.spec
    put-picked-table-requires
    (λ c. search rules)
    returns)
