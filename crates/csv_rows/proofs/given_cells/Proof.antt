-- Field by field. Assumes nothing.
use borrow.Author.Rules.{rules}
use Rattle.csv_rows.proofs.given_cells.Statement.{statement}
use Rattle.csv_rows.proofs.given_cells.Tie as tie

returns : tie.Need-returns
returns c = rw c.falling_from.ensures

pub given_cells_spec : {M : Type 1} → statement M
given_cells_spec =
    tie.close
    (tie.spec
    (λ c. search rules)
    (λ c. search rules)
    (λ c κs. search rules)
    returns)
