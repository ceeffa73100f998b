-- The line, or nothing. Assumes nothing.
use mathlib.Core.Path.{sym, ◌∙◌}
use Rattle.composing.proofs.Puts.{put_none}
use Rattle.hindsight_marks.specs.Marks.{mark_line}
use borrow.Author.Rules.{rules}
use Rattle.hindsight_marks.proofs.put_mark_line.Statement.{statement}
use Rattle.hindsight_marks.proofs.put_mark_line.Tie as tie

returns : tie.Need-returns-then-some_mark
unfolding mark_line
returns c = rw (sym c.before.before.before.before.before.some_mark.ensures ∙ c.before.before.before.before.if-some_mark.true) c.before.before.put_number_text.ensures

returns-2 : tie.Need-returns-else-some_mark
unfolding mark_line
returns-2 c = rw (sym c.before.some_mark.ensures ∙ c.if-some_mark.false) (put_none _ _)

pub put_mark_line_spec : {M : Type 1} → statement M
put_mark_line_spec =
    tie.close
    (tie.spec
    (λ c. search rules)
    (λ c κs. search rules)
    (λ c κs. search rules)
    (λ c. search rules)
    returns
    returns-2)
