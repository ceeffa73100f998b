-- The section, or nothing. Assumes nothing.
use mathlib.Core.Path.{sym, ◌∙◌}
use Rattle.composing.proofs.Puts.{put_none}
use Rattle.hindsight_page.specs.Page.{gaps_section}
use borrow.Author.Rules.{rules}
use Rattle.hindsight_page.proofs.put_gaps_section.Statement.{statement}
use Rattle.hindsight_page.proofs.put_gaps_section.Tie as tie

returns : tie.Need-returns-then-some_fitted
unfolding gaps_section
returns c = rw (sym c.before.before.before.before.before.some_fitted.ensures ∙ c.before.before.before.before.if-some_fitted.true) c.before.before.put_gaps.ensures

returns-2 : tie.Need-returns-else-some_fitted
unfolding gaps_section
returns-2 c = rw (sym c.before.some_fitted.ensures ∙ c.if-some_fitted.false) (put_none _ _)

pub put_gaps_section_spec : {M : Type 1} → statement M
put_gaps_section_spec =
    tie.close
    (tie.spec
    (λ c κs. search rules)
    (λ c κs. search rules)
    (λ c. search rules)
    returns
    returns-2)
