-- Field by field. Assumes nothing.
use Rattle.rows.specs.Rows.{next_row}
use borrow.Author.Rules.{rules}
use Rattle.rows.proofs.next_row.Statement.{statement}
use Rattle.rows.proofs.next_row.Tie as tie

returns : tie.Need-returns
unfolding next_row
returns c =
    rw (c.before.before.less.ensures, c.less-2.ensures)

pub next_row_spec : {M : Type 1} → statement M
next_row_spec = tie.close (tie.spec (λ c κs. search rules) (λ c. search rules) (λ c κs. search rules) returns)
