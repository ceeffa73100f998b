-- The places, the styles and the words are those of the table. Assumes nothing.
use native.Mathlib.Omega.{arith}
use mathlib.Core.Path.{refl}
use Rattle.rules.specs.Lists.{padded, joined, every}
use Rattle.table_cells.specs.Cells.{styled}
use Rattle.picked_table.specs.Picked.{places_of, kinds_of}
use Rattle.picked_table.proofs.Picked.{picks}
use Rattle.expense_section.specs.Expense.{ratio_rows, ratio_table}
use borrow.Author.Rules.{rules}
use Rattle.expense_section.proofs.put_ratio_table.Statement.{statement}
use Rattle.expense_section.proofs.put_ratio_table.Tie as tie

put-picked-table-requires : tie.Need-put_picked_table-requires
unfolding every
put-picked-table-requires c κs = picks _ _ (omega (arith, c.before.before.before.before.before.before.before.rows_shown.ensures.1)) (omega arith) (omega arith) refl

returns : tie.Need-returns
unfolding ratio_table ratio_rows places_of kinds_of padded joined styled
returns c = rw c.before.before.before.before.before.before.before.before.before.before.rows_shown.ensures.0 at c.before.before.put_picked_table.ensures

pub put_ratio_table_spec : {M : Type 1} → statement M
put_ratio_table_spec =
    tie.close
    (tie.spec
    (λ c κs. search rules)
    put-picked-table-requires
    (λ c. search rules)
    returns)
