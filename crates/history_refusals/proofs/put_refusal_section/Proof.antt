-- The section, or nothing. Assumes nothing.
use mathlib.Core.Path.{sym, ◌∙◌}
use Rattle.composing.proofs.Puts.{put_three, put_none}
use Rattle.history_refusals.specs.Refusals.{refusals, refusal_section}
use borrow.Author.Rules.{rules}
use Rattle.history_refusals.proofs.put_refusal_section.Statement.{statement}
use Rattle.history_refusals.proofs.put_refusal_section.Tie as tie

returns : tie.Need-returns-then-some_number
unfolding refusal_section refusals
returns c = rw (sym c.before.before.before.before.before.before.before.before.before.before.before.before.before.before.before.some_number.ensures ∙ c.before.before.before.before.before.before.before.before.before.before.before.before.before.before.if-some_number.true) (put_three c.before.before.before.before.before.before.before.before.before.before.put_section_start-a.ensures c.before.before.before.before.before.before.put_number_lines-b.ensures c.before.before.put_section_end.ensures)

returns-2 : tie.Need-returns-else-some_number
unfolding refusal_section
returns-2 c = rw (sym c.before.some_number.ensures ∙ c.if-some_number.false) (put_none _ _)

pub put_refusal_section_spec : {M : Type 1} → statement M
put_refusal_section_spec =
    tie.close
    (tie.spec
    (λ c κs. search rules)
    (λ c κs. search rules)
    (λ c κs. search rules)
    (λ c κs. search rules)
    (λ c. search rules)
    returns
    returns-2)
