-- Field by field. Assumes nothing.
use borrow.Author.Rules.{rules}
use Rattle.csv_rows.proofs.by_year.Statement.{statement}
use Rattle.csv_rows.proofs.by_year.Tie as tie

returns : tie.Need-returns
returns c = rw c.level_at.ensures

pub by_year_spec : {M : Type 1} → statement M
by_year_spec =
    tie.close
    (tie.spec
    (λ c κs. search rules)
    returns)
