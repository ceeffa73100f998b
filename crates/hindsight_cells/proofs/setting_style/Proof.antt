-- By the column. Assumes nothing.
use borrow.Author.Tests.{eq-eqb, ne_eqb}
use Rattle.hindsight_cells.specs.Cells.{setting_style}
use borrow.Author.Rules.{rules}
use Rattle.hindsight_cells.proofs.setting_style.Statement.{statement}
use Rattle.hindsight_cells.proofs.setting_style.Tie as tie

returns : tie.Need-returns-then-j-eq0
unfolding setting_style
returns c = rw (eq-eqb _ _ c.before.if-j-eq0.true) c.styled.ensures

returns-2 : tie.Need-returns-else-j-eq0
unfolding setting_style
returns-2 c = rw (ne_eqb _ _ c.before.if-j-eq0.false) c.styled-else-j-eq0.ensures

pub setting_style_spec : {M : Type 1} → statement M
setting_style_spec =
    tie.close
    (tie.spec
    (λ c κs. search rules)
    (λ c κs. search rules)
    returns
    returns-2)
