-- By whether the step is marked, and whether the column is the last. Assumes nothing.
use mathlib.Core.Path.{sym, ◌∙◌}
use borrow.Author.Tests.{eq-eqb, ne_eqb}
use Rattle.hindsight_cells.specs.Cells.{step_style}
use borrow.Author.Rules.{rules}
use Rattle.hindsight_cells.proofs.step_style.Statement.{statement}
use Rattle.hindsight_cells.proofs.step_style.Tie as tie

returns : tie.Need-returns-then-j-n
unfolding step_style
returns c = rw (sym c.before.before.before.is_marked.ensures ∙ c.before.before.if-is_marked.true, eq-eqb _ _ c.before.if-j-n.true) c.styled.ensures

returns-2 : tie.Need-returns-else-j-n
unfolding step_style
returns-2 c = rw (sym c.before.before.is_marked.ensures ∙ c.before.if-is_marked.true, ne_eqb _ _ c.if-j-n.false)

returns-3 : tie.Need-returns-then-j-n-2
unfolding step_style
returns-3 c = rw (sym c.before.before.is_marked.ensures ∙ c.before.if-is_marked.false, eq-eqb _ _ c.if-j-n-2.true)

returns-4 : tie.Need-returns-else-j-n-2
unfolding step_style
returns-4 c = rw (sym c.before.before.before.is_marked.ensures ∙ c.before.before.if-is_marked.false, ne_eqb _ _ c.before.if-j-n-2.false) c.styled-else-j-n-2.ensures

pub step_style_spec : {M : Type 1} → statement M
step_style_spec =
    tie.close
    (tie.spec
    (λ c. search rules)
    (λ c κs. search rules)
    (λ c κs. search rules)
    (λ c κs. search rules)
    returns
    returns-2
    returns-3
    returns-4)
