-- The line, or nothing. Assumes nothing.
use mathlib.Core.Path.{sym, ◌∙◌}
use Rattle.composing.proofs.Puts.{put_none}
use Rattle.history_refusals.specs.Refusals.{number_line}
use borrow.Author.Rules.{rules}
use Rattle.history_refusals.proofs.put_number_line.Statement.{statement}
use Rattle.history_refusals.proofs.put_number_line.Tie as tie

returns : tie.Need-returns-then-some_number
unfolding number_line
returns c = rw (sym c.before.before.before.before.before.some_number.ensures ∙ c.before.before.before.before.if-some_number.true) c.before.before.put_number_text.ensures

returns-2 : tie.Need-returns-else-some_number
unfolding number_line
returns-2 c = rw (sym c.before.some_number.ensures ∙ c.if-some_number.false) (put_none _ _)

pub put_number_line_spec : {M : Type 1} → statement M
put_number_line_spec =
    tie.close
    (tie.spec
    (λ c κs. search rules)
    (λ c κs. search rules)
    (λ c. search rules)
    returns
    returns-2)
