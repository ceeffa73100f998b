-- The cells, and the table over them. Assumes nothing.
use Rattle.picked_table.specs.Picked.{picked_table}
use borrow.Author.Rules.{rules}
use Rattle.picked_table.proofs.put_picked_table.Statement.{statement}
use Rattle.picked_table.proofs.put_picked_table.Tie as tie

returns : tie.Need-returns
unfolding picked_table
returns c =
    let cells = c.before.before.before.before.before.before.before.before.pick.ensures in
    rw (cells.0, cells.1) at c.before.before.put_table.ensures

pub put_picked_table_spec : {M : Type 1} → statement M
put_picked_table_spec =
    tie.close
    (tie.spec
    (λ c. search rules)
    (λ c κs. search rules)
    (λ c κs. search rules)
    (λ c. search rules)
    returns)
