-- The parts follow one another (put_four). Assumes nothing.
use Rattle.composing.proofs.Puts.{put_four}
use Rattle.hindsight_page.specs.Page.{steps_paragraph, steps_section}
use borrow.Author.Rules.{rules}
use Rattle.hindsight_page.proofs.put_steps_section.Statement.{statement}
use Rattle.hindsight_page.proofs.put_steps_section.Tie as tie

returns : tie.Need-returns
unfolding steps_section steps_paragraph
returns c = put_four c.before.before.before.before.before.before.before.before.before.before.before.before.before.before.before.before.put_section_start-a.ensures c.before.before.before.before.before.before.before.before.before.before.put_only-b.ensures c.before.before.before.before.before.before.put_steps_rows-c.ensures c.before.before.put_section_end.ensures

pub put_steps_section_spec : {M : Type 1} → statement M
put_steps_section_spec =
    tie.close
    (tie.spec
    (λ c κs. search rules)
    (λ c κs. search rules)
    (λ c κs. search rules)
    (λ c κs. search rules)
    (λ c. search rules)
    returns)
