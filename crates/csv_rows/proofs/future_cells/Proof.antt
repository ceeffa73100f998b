-- Field by field. Assumes nothing.
use borrow.Author.Rules.{rules}
use Rattle.csv_rows.proofs.future_cells.Statement.{statement}
use Rattle.csv_rows.proofs.future_cells.Tie as tie

returns : tie.Need-returns
returns c = rw c.rising_from.ensures

pub future_cells_spec : {M : Type 1} → statement M
future_cells_spec =
    tie.close
    (tie.spec
    (λ c. search rules)
    (λ c. search rules)
    (λ c κs. search rules)
    returns)
