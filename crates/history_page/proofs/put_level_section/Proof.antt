-- The parts follow one another (put_four). Assumes nothing.
use Rattle.composing.proofs.Puts.{put_four}
use Rattle.history_page.specs.Page.{level_paragraph, level_section}
use borrow.Author.Rules.{rules}
use Rattle.history_page.proofs.put_level_section.Statement.{statement}
use Rattle.history_page.proofs.put_level_section.Tie as tie

returns : tie.Need-returns
unfolding level_section level_paragraph
returns c =
    put_four c.before.before.before.before.before.before.before.before.before.before.before.before.before.before.before.before.put_section_start-a.ensures c.before.before.before.before.before.before.before.before.before.before.put_only-b.ensures c.before.before.before.before.before.before.put_level_tables-c.ensures c.before.before.put_section_end.ensures

pub put_level_section_spec : {M : Type 1} → statement M
put_level_section_spec =
    tie.close
    (tie.spec
    (λ c κs. search rules)
    (λ c κs. search rules)
    (λ c κs. search rules)
    (λ c κs. search rules)
    (λ c. search rules)
    returns)
