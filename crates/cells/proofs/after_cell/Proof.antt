-- What comes after the cell, by the separators. Assumes nothing.
use mathlib.Core.Path.{◌∙◌}
use Rattle.cells.specs.Cells.{after_cell}
use borrow.Author.Rules.{rules}
use Rattle.cells.proofs.after_cell.Statement.{statement}
use Rattle.cells.proofs.after_cell.Tie as tie

returns : tie.Need-returns
unfolding after_cell
returns c =
    c.past.ensures ∙ rw (c.before.before.from_cell.ensures, c.before.before.before.separators_of-set.ensures)

pub after_cell_spec : {M : Type 1} → statement M
after_cell_spec =
    tie.close
    (tie.spec (λ c κs. search rules) (λ c κs. search rules) (λ c. search rules) (λ c κs. search rules) returns)
