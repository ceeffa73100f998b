-- The heading, the paragraph, the tables with words between them, and the end (put_append, put_five). Assumes nothing.
use mir.Facts.{to_z-of_z}
use Rattle.composing.proofs.Puts.{put_append, put_five}
use Rattle.fit_section.specs.FitSection.{fit_section}
use borrow.Author.Rules.{rules}
use Rattle.fit_section.proofs.put_fit_section.Statement.{statement}
use Rattle.fit_section.proofs.put_fit_section.Tie as tie

returns : tie.Need-returns
unfolding fit_section
returns c =
    let end = c.before.before in
    let gaps = end.before.before.before.before in
    let words = gaps.before.before.before.before in
    let averages = words.before.before.before.before in
    let paragraph = averages.before.before.before.before in
    let start = paragraph.before.before.before.before.before.before in
    let s = start.before.before.before.before.before in
    put_append start.put_section_start-paragraph.ensures
    (put_five paragraph.put_only-table.ensures averages.put_average_table-words.ensures (rw (to_z-of_z s.ranges.averages, to_z-of_z s.ranges.gaps) at words.put_fit_words-gap_table.ensures) gaps.put_gap_table-end.ensures
    end.put_section_end.ensures)

pub put_fit_section_spec : {M : Type 1} → statement M
put_fit_section_spec =
    tie.close
    (tie.spec
    (λ c κs. search rules)
    (λ c κs. search rules)
    (λ c κs. search rules)
    (λ c κs. search rules)
    (λ c κs. search rules)
    (λ c κs. search rules)
    (λ c. search rules)
    returns)
