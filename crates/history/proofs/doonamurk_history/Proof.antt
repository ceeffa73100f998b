-- Both questions are asked before the first write. Assumes nothing.
use borrow.Author.Rules.{rules}
use mathlib.Core.Path.{◌≡◌, refl, sym, ◌∙◌}
use native.Mathlib.Omega.{arith}
use lib.ListN.{length}
use Rattle.rules.specs.Questions.{after_call}
use Rattle.rules.specs.History.{history_answer, history_into}
use Rattle.laws.proofs.Questions.{after_refusal}
use Rattle.history_questions.proofs.Passed.{accepted_known}
use Rattle.history.proofs.doonamurk_history.Statement.{statement}
use Rattle.history.proofs.doonamurk_history.Tie as tie

history-answer-requires : tie.Need-history_answer-answer-requires
history-answer-requires c κs = search rules

-- the answer is not 0, and it is
refused : (c : tie.Then-answer-ne-ACCEPTED) → c.before.history_answer-answer.result ≡ 0 → ⊥
refused c e = omega arith

accepted : (c : tie.Else-answer-ne-ACCEPTED) → let s = c.before.before.before in history_answer s.args.years s.args.width s.args.exposures.now s.args.cells.now (length s.args.res.now) ≡ 0
accepted c = sym c.before.history_answer-answer.ensures ∙ omega arith

returns : tie.Need-returns-then-answer-ne-ACCEPTED
unfolding history_into
returns c =
    let answer = c.before.history_answer-answer in
    (answer.ensures, sym (after_refusal _ _ _ (λ z. refused c (answer.ensures ∙ z))))

fill-list-requires : tie.Need-fill_list-requires
fill-list-requires c κs =
    let s = c.before.before.before.before in
    accepted_known s.args.years s.args.width s.args.exposures.now s.args.cells.now (length s.args.res.now) (accepted c.before)

same_length : tie.Need-shape_of-res
same_length c = search rules

returns-2 : tie.Need-returns
unfolding history_into after_call
returns-2 c = (c.before.before.before.before.history_answer-answer.ensures, c.before.fill_list.ensures ∙ rw (accepted c.before.before.before))

pub doonamurk_history_spec : {M : Type 1} → statement M
doonamurk_history_spec = tie.close (tie.spec history-answer-requires returns fill-list-requires same_length returns-2)
