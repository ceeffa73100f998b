-- The style is that of the decimals. Assumes nothing.
use borrow.Author.Rules.{rules}
use Rattle.level_columns.proofs.place_column.Statement.{statement}
use Rattle.level_columns.proofs.place_column.Tie as tie

returns : tie.Need-returns
returns c = rw c.before.before.before.styled-style.ensures at c.place.ensures

pub place_column_spec : {M : Type 1} → statement M
place_column_spec =
    tie.close
    (tie.spec
    (λ c κs. search rules)
    (λ c κs. search rules)
    returns)
