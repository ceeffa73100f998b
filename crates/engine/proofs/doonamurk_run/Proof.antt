-- Each answer is that of a segment of the questions, and of an accepted run the third demand holds (ran). Assumes nothing.
use borrow.Author.Rules.{rules}
use borrow.Author.Tests.{leb-true}
use native.Mathlib.Omega.{arith}
use mathlib.Core.Path.{◌≡◌, refl, sym, ◌∙◌}
use mathlib.Core.Bool.{true}
use mathlib.Core.List.{[], ◌∷◌}
use lib.ListN.{length}
use Rattle.rules.specs.Lists.{every}
use Rattle.rules.specs.Packing.{Fit}
use Rattle.rules.specs.Questions.{first_no}
use Rattle.rules.specs.Record.{last_year_of, figures_of}
use Rattle.rules.specs.Reading.{opening_questions}
use Rattle.rules.specs.Results.{result_count}
use Rattle.rules.specs.Engine.{holds_list, questions}
use Rattle.opening.proofs.Opened.{years_known_lem, opening_yes}
use Rattle.answering.proofs.Answering.{one_no, one_yes, first_refused_lem, later}
use Rattle.reserving.specs.Stages.{filled}
use Rattle.engine.proofs.Run.{ran}
use Rattle.engine.proofs.doonamurk_run.Statement.{statement}
use Rattle.engine.proofs.doonamurk_run.Tie as tie

opens-requires : tie.Need-opens-answer-requires
opens-requires c κs = search rules

abbrev start : tie.After-opens-answer → tie.Start
start c = c.before.before

bytes : (c : tie.After-opens-answer) → Fit 8 (start c).args.packed.now
bytes c i = omega (arith, c.before.shared_slice_known-1.given i)

returns : tie.Need-returns-then-answer-ne-ACCEPTED
unfolding questions
returns c =
    let at = c.before in
    let s = start at in
    let packed = s.args.packed.now in
    let out = s.args.results.now in
    ran s.args.valuation_year packed out (bytes at) at.opens-answer.result _ (first_refused_lem (filled s.args.valuation_year (figures_of packed) out) out (opening_questions packed) _ at.opens-answer.result (sym at.opens-answer.ensures) c.if-answer-ne-ACCEPTED.true)

yes-opening : (c : tie.Else-answer-ne-ACCEPTED) → first_no (opening_questions (start c.before).args.packed.now) ≡ 0
yes-opening c = sym c.before.opens-answer.ensures ∙ c.if-answer-ne-ACCEPTED.false

holds-list-requires : tie.Need-holds_list-requires
holds-list-requires c κs =
    let packed = (start c.before).args.packed.now in
    (years_known_lem packed (opening_yes packed (yes-opening c)).0).0

returns-2 : tie.Need-returns-then-not-holds_list
unfolding questions opening_questions every
returns-2 c =
    let one = c.before.before in
    let s = start one.before in
    let packed = s.args.packed.now in
    let out = s.args.results.now in
    let no = sym c.before.holds_list.ensures ∙ c.if-not-holds_list.true in
    ran s.args.valuation_year packed out (bytes one.before) 3 out
    (later (filled s.args.valuation_year (figures_of packed) out) out (opening_questions packed) _ out 3 refl (yes-opening one)
    (first_refused_lem (filled s.args.valuation_year (figures_of packed) out) out ((3, _) ∷ []) _ 3 (one_no 3 _ no) (λ z. omega arith)))

yes-room : (c : tie.Else-not-holds_list) →
    let s = start c.before.before.before in
    holds_list s.args.packed.now (length s.args.results.now) ≡ true
yes-room c = sym c.before.holds_list.ensures ∙ c.if-not-holds_list.false

run-record-requires : tie.Need-run_record-requires
unfolding holds_list
run-record-requires c κs =
    let two = c.before in
    let s = start two.before.before.before in
    let packed = s.args.packed.now in
    let out = s.args.results.now in
    (yes-opening two.before.before, leb-true (result_count (last_year_of packed)) (length out) (yes-room two))

same_length : tie.Need-shape_of-results
same_length c = search rules

returns-3 : tie.Need-returns
unfolding questions opening_questions every
returns-3 c =
    let run = c.before in
    let two = run.before.before in
    let one = two.before.before in
    let s = start one.before in
    let packed = s.args.packed.now in
    let out = s.args.results.now in
    let f = figures_of packed in
    ran s.args.valuation_year packed out (bytes one.before) run.run_record.result _
    (later (filled s.args.valuation_year f out) out (opening_questions packed) _ _ _ refl (yes-opening one)
    (later (filled s.args.valuation_year f out) out ((3, _) ∷ []) _ _ _ refl (one_yes 3 _ (yes-room two)) run.run_record.ensures))

pub doonamurk_run_spec : {M : Type 1} → statement M
doonamurk_run_spec =
    tie.close
    (tie.spec
    opens-requires
    returns
    holds-list-requires
    returns-2
    run-record-requires
    same_length
    returns-3)
