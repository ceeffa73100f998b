-- Field by field. Assumes nothing.
use borrow.Author.Rules.{rules}
use Rattle.csv_rows.proofs.by_itself.Statement.{statement}
use Rattle.csv_rows.proofs.by_itself.Tie as tie

returns : tie.Need-returns
returns c = rw c.level_at.ensures

pub by_itself_spec : {M : Type 1} → statement M
by_itself_spec =
    tie.close
    (tie.spec
    (λ c κs. search rules)
    returns)
