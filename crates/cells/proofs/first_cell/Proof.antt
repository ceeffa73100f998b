-- The piece up to the separator. Assumes nothing.
use mathlib.Core.Path.{◌∙◌}
use Rattle.cells.specs.Cells.{first_cell_of}
use borrow.Author.Rules.{rules}
use Rattle.cells.proofs.first_cell.Statement.{statement}
use Rattle.cells.proofs.first_cell.Tie as tie

returns : tie.Need-returns
unfolding first_cell_of
returns c =
    c.cell_of.ensures ∙ rw (c.before.until.ensures, c.before.before.before.from_cell.ensures, c.before.before.before.before.separators_of-set.ensures)

pub first_cell_spec : {M : Type 1} → statement M
first_cell_spec =
    tie.close
    (tie.spec
    (λ c κs. search rules)
    (λ c κs. search rules)
    (λ c. search rules)
    (λ c κs. search rules)
    (λ c κs. search rules)
    returns)
