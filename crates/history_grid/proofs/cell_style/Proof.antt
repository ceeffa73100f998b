-- By whether the position is refused, and whether the column is the last. Assumes nothing.
use mathlib.Core.Path.{sym, ◌∙◌}
use borrow.Author.Tests.{eq-eqb, ne_eqb}
use Rattle.history_grid.specs.Grid.{cell_style}
use borrow.Author.Rules.{rules}
use Rattle.history_grid.proofs.cell_style.Statement.{statement}
use Rattle.history_grid.proofs.cell_style.Tie as tie

returns : tie.Need-returns-then-j-width
unfolding cell_style
returns c =
    rw (sym c.before.before.before.is_refused.ensures ∙ c.before.before.if-is_refused.true, eq-eqb _ _ c.before.if-j-width.true) c.styled.ensures

returns-2 : tie.Need-returns-else-j-width
unfolding cell_style
returns-2 c = rw (sym c.before.before.is_refused.ensures ∙ c.before.if-is_refused.true, ne_eqb _ _ c.if-j-width.false)

returns-3 : tie.Need-returns-then-j-width-2
unfolding cell_style
returns-3 c = rw (sym c.before.before.is_refused.ensures ∙ c.before.if-is_refused.false, eq-eqb _ _ c.if-j-width-2.true)

returns-4 : tie.Need-returns-else-j-width-2
unfolding cell_style
returns-4 c =
    rw (sym c.before.before.before.is_refused.ensures ∙ c.before.before.if-is_refused.false, ne_eqb _ _ c.before.if-j-width-2.false) c.styled-else-j-width-2.ensures

pub cell_style_spec : {M : Type 1} → statement M
cell_style_spec =
    tie.close
    (tie.spec
    (λ c κs. search rules)
    (λ c κs. search rules)
    (λ c κs. search rules)
    returns
    returns-2
    returns-3
    returns-4)
