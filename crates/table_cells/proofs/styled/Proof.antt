-- The mark and the decimals in one byte. Assumes nothing.
use mathlib.Core.Path.{refl}
use Rattle.table_cells.specs.Cells.{styled}
use borrow.Author.Rules.{rules}
use Rattle.table_cells.proofs.styled.Statement.{statement}
use Rattle.table_cells.proofs.styled.Tie as tie

returns : tie.Need-returns
unfolding styled
returns c = refl

pub styled_spec : {M : Type 1} → statement M
styled_spec =
    tie.close
    (tie.spec (λ c. search rules) (λ c. search rules) (λ c. search rules) returns)
