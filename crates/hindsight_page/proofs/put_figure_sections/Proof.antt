-- The parts follow one another (put_three). Assumes nothing.
use Rattle.composing.proofs.Puts.{put_three}
use Rattle.hindsight_page.specs.Page.{figure_sections}
use borrow.Author.Rules.{rules}
use Rattle.hindsight_page.proofs.put_figure_sections.Statement.{statement}
use Rattle.hindsight_page.proofs.put_figure_sections.Tie as tie

returns : tie.Need-returns
unfolding figure_sections
returns c = put_three c.before.before.before.before.before.before.before.before.before.before.put_settings_section-b.ensures c.before.before.before.before.before.before.put_steps_section-c.ensures c.before.before.put_gaps_section.ensures

pub put_figure_sections_spec : {M : Type 1} → statement M
put_figure_sections_spec =
    tie.close
    (tie.spec
    (λ c κs. search rules)
    (λ c κs. search rules)
    (λ c κs. search rules)
    (λ c. search rules)
    returns)
