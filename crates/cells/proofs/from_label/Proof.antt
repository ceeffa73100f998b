-- The spaces in front are passed. Assumes nothing.
use Rattle.cells.specs.Cells.{from_label}
use borrow.Author.Rules.{rules}
use Rattle.cells.proofs.from_label.Statement.{statement}
use Rattle.cells.proofs.from_label.Tie as tie

returns : tie.Need-returns
unfolding from_label
returns c = c.from.ensures

pub from_label_spec : {M : Type 1} → statement M
from_label_spec = tie.close (tie.spec
    (λ c κs. search rules)
    returns)
