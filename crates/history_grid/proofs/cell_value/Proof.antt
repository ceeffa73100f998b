-- By whether the column is the last. Assumes nothing.
use mir.Syntax.{w64}
use mathlib.Core.Path.{◌∙◌}
use mir.Facts.{to_z-of_z}
use borrow.Author.Rules.{rules, sfits_of}
use borrow.Author.Tests.{eq-eqb, ne_eqb}
use Rattle.history_grid.specs.Grid.{cell_value}
use Rattle.history_grid.proofs.cell_value.Statement.{statement}
use Rattle.history_grid.proofs.cell_value.Tie as tie

returns : tie.Need-returns-then-j-width
unfolding cell_value
returns c = rw (eq-eqb _ _ c.before.if-j-width.true) (to_z-of_z {w = w64} (sfits_of c.entry_of.type_inv) ∙ c.entry_of.ensures)

returns-2 : tie.Need-returns-else-j-width
unfolding cell_value
returns-2 c = rw (ne_eqb _ _ c.before.if-j-width.false) (to_z-of_z {w = w64} (sfits_of c.entry_of-else-j-width.type_inv) ∙ c.entry_of-else-j-width.ensures)

pub cell_value_spec : {M : Type 1} → statement M
cell_value_spec =
    tie.close
    (tie.spec
    (λ c κs. search rules)
    (λ c. search rules)
    (λ c κs. search rules)
    returns
    returns-2)
