-- 27 before 28. Assumes nothing.
use borrow.Author.Rules.{rules}
use mathlib.Core.Path.{◌≡◌, refl, sym, ◌∙◌}
use mathlib.Core.Bool.{true}
use Rattle.rules.specs.Questions.{first_no}
use Rattle.rules.specs.History.{width_passes, history_questions, history_answer}
use Rattle.history_questions.proofs.history_answer.Statement.{statement}
use Rattle.history_questions.proofs.history_answer.Tie as tie

width-passes-requires : tie.Need-width_passes-requires
width-passes-requires c κs = search rules

returns : tie.Need-returns-then-not-width_passes
unfolding history_answer history_questions first_no
returns c = rw (sym c.before.width_passes.ensures ∙ c.if-not-width_passes.true) refl

-- 27 says yes
passed : (c : tie.Else-not-width_passes) → width_passes c.before.before.before.args.years c.before.before.before.args.width ≡ true
passed c = sym c.before.width_passes.ensures ∙ c.if-not-width_passes.false

history-passes-requires : tie.Need-history_passes-requires
history-passes-requires c κs = passed c

returns-2 : tie.Need-returns-then-not-history_passes
unfolding history_answer history_questions first_no
returns-2 c = rw (passed c.before.before, sym c.before.history_passes.ensures ∙ c.if-not-history_passes.true) refl

returns-3 : tie.Need-returns
unfolding history_answer history_questions first_no
returns-3 c = rw (passed c.before.before, sym c.before.history_passes.ensures ∙ c.if-not-history_passes.false) refl

pub history_answer_spec : {M : Type 1} → statement M
history_answer_spec = tie.close (tie.spec width-passes-requires returns history-passes-requires returns-2 returns-3)
