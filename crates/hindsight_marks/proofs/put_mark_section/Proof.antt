-- The section, or nothing. Assumes nothing.
use mathlib.Core.Path.{sym, ◌∙◌}
use Rattle.composing.proofs.Puts.{put_three, put_none}
use Rattle.hindsight_marks.specs.Marks.{marks, mark_section}
use borrow.Author.Rules.{rules}
use Rattle.hindsight_marks.proofs.put_mark_section.Statement.{statement}
use Rattle.hindsight_marks.proofs.put_mark_section.Tie as tie

returns : tie.Need-returns-then-some_mark
unfolding mark_section marks
returns c = rw (sym c.before.before.before.before.before.before.before.before.before.before.before.before.before.before.before.some_mark.ensures ∙ c.before.before.before.before.before.before.before.before.before.before.before.before.before.before.if-some_mark.true) (put_three c.before.before.before.before.before.before.before.before.before.before.put_section_start-a.ensures c.before.before.before.before.before.before.put_mark_lines-b.ensures c.before.before.put_section_end.ensures)

returns-2 : tie.Need-returns-else-some_mark
unfolding mark_section
returns-2 c = rw (sym c.before.some_mark.ensures ∙ c.if-some_mark.false) (put_none _ _)

pub put_mark_section_spec : {M : Type 1} → statement M
put_mark_section_spec =
    tie.close
    (tie.spec
    (λ c. search rules)
    (λ c κs. search rules)
    (λ c κs. search rules)
    (λ c κs. search rules)
    (λ c κs. search rules)
    (λ c. search rules)
    returns
    returns-2)
