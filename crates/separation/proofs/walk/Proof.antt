-- No factors where questions 7 and 8 give a number, and those of the walk where they give none. Assumes nothing.
use mathlib.Core.Path.{sym, ◌∙◌}
use native.Mathlib.Nat.{le_refl}
use native.Mathlib.Omega.{arith}
use borrow.Author.Rules.{rules}
use Rattle.rules.specs.Questions.{after_call}
use Rattle.rules.specs.Separation.{factors_of}
use Rattle.laws.proofs.Questions.{after_refusal}
use Rattle.separation.specs.Walk.{factors_to}
use Rattle.separation.proofs.Steps.{latest_running}
use Rattle.separation.proofs.walk.Statement.{statement}
use Rattle.separation.proofs.walk.Tie as tie

totals-answer-requires : tie.Need-totals_answer-requires
totals-answer-requires c κs = search rules

no-factors-requires : tie.Need-no_factors-requires
no-factors-requires c κs = search rules

abbrev start : tie.After-totals_answer → tie.Start
start c = c.before.before.before.before

returns : tie.Need-returns-then-totals_answer-ne-ACCEPTED
returns c q of =
    let at = c.before.before in
    c.no_factors.ensures ∙ sym (after_refusal _ _ _ (λ z. c.before.if-totals_answer-ne-ACCEPTED.true (at.totals_answer.ensures.number q of ∙ z)))

level-step-requires : tie.Need-level_step-requires
level-step-requires c κs =
    let at = c.before.before.before in
    (at.before.totals_answer.ensures.ready at.if-totals_answer-ne-ACCEPTED.false, (omega arith, (start at.before).requires.0))

returns-2 : tie.Need-returns
unfolding factors_to factors_of after_call
returns-2 c q of =
    let at = c.before.before.before.before in
    let totals = at.before.totals_answer.ensures in
    let k = (start at.before).args.k in
    rw (sym (totals.number q of) ∙ at.if-totals_answer-ne-ACCEPTED.false)
    (c.level_step.ensures q (totals.sizes q of at.if-totals_answer-ne-ACCEPTED.false) (totals.corners q of at.if-totals_answer-ne-ACCEPTED.false) (le_refl k) (latest_running q k))

pub walk_spec : {M : Type 1} → statement M
walk_spec =
    tie.close
    (tie.spec
    totals-answer-requires
    no-factors-requires
    returns
    level-step-requires
    returns-2)
