-- One page's table or the other's. Assumes nothing.
use Rattle.parts.specs.Parts.{either}
use Rattle.table.specs.Table.{table}
use borrow.Author.Rules.{rules}
use Rattle.table.proofs.put_table.Statement.{statement}
use Rattle.table.proofs.put_table.Tie as tie

returns : tie.Need-returns-then-html
unfolding table either
returns c = rw c.before.before.before.before.if-html.true c.before.before.put_web_table.ensures

returns-2 : tie.Need-returns-else-html
unfolding table either
returns-2 c = rw c.before.before.before.before.if-html.false c.before.before.put_text_table.ensures

pub put_table_spec : {M : Type 1} → statement M
put_table_spec =
    tie.close
    (tie.spec (λ c κs. search rules) (λ c κs. search rules) (λ c. search rules) returns (λ c. search rules) returns-2)
