-- The heading, the paragraph, the table and the end (put_four). Assumes nothing.
use Rattle.composing.proofs.Puts.{put_four}
use Rattle.ladder_section.specs.Ladder.{ladder_section}
use borrow.Author.Rules.{rules}
use Rattle.ladder_section.proofs.put_ladder_section.Statement.{statement}
use Rattle.ladder_section.proofs.put_ladder_section.Tie as tie

returns : tie.Need-returns
unfolding ladder_section
returns c =
    let end = c.before.before in
    let table = end.before.before.before.before in
    let paragraph = table.before.before.before.before in
    let start = paragraph.before.before.before.before.before.before in
    put_four start.put_section_start-paragraph.ensures paragraph.put_only-table.ensures table.put_ladder_table-end.ensures end.put_section_end.ensures

pub put_ladder_section_spec : {M : Type 1} → statement M
put_ladder_section_spec =
    tie.close
    (tie.spec
    (λ c κs. search rules)
    (λ c κs. search rules)
    (λ c κs. search rules)
    (λ c κs. search rules)
    (λ c. search rules)
    returns)
