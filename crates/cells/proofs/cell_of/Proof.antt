-- The spaces first, and then the quotes. Assumes nothing.
use mathlib.Core.Path.{◌∙◌}
use Rattle.cells.specs.Cells.{cell_from}
use borrow.Author.Rules.{rules}
use Rattle.cells.proofs.cell_of.Statement.{statement}
use Rattle.cells.proofs.cell_of.Tie as tie

returns : tie.Need-returns
unfolding cell_from
returns c = c.unquoted_of.ensures ∙ rw c.before.trimmed_of.ensures

pub cell_of_spec : {M : Type 1} → statement M
cell_of_spec = tie.close (tie.spec (λ c κs. search rules) (λ c κs. search rules) returns)
