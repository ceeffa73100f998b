-- Field by field. Assumes nothing.
use borrow.Author.Rules.{rules}
use Rattle.csv_rows.proofs.by_origin.Statement.{statement}
use Rattle.csv_rows.proofs.by_origin.Tie as tie

returns : tie.Need-returns
returns c = rw c.level_at.ensures

pub by_origin_spec : {M : Type 1} → statement M
by_origin_spec =
    tie.close
    (tie.spec
    (λ c. search rules)
    (λ c κs. search rules)
    returns)
