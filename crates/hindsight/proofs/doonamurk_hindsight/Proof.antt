-- Each answer is that of a segment of the questions. Assumes nothing.
use borrow.Author.Rules.{rules}
use borrow.Author.Tests.{leb-true}
use native.Mathlib.Omega.{arith}
use mathlib.Core.Path.{◌≡◌, refl, sym, ◌∙◌}
use mathlib.Core.Bool.{true}
use mathlib.Core.List.{List, [], ◌∷◌}
use Prim.Native.Nat.{ℕ}
use lib.IntN.{ℤ}
use lib.ListN.{length}
use Rattle.rules.specs.Lists.{every}
use Rattle.rules.specs.Questions.{first_no}
use Rattle.rules.specs.Record.{last_year_of, figures_of}
use Rattle.rules.specs.Reading.{opening_questions}
use Rattle.rules.specs.Hindsight.{settings_pass, holds_report, hindsight_count, hindsight_questions, hindsight_answer, hindsight_into}
use Rattle.answering.specs.Answers.{AnswersWith}
use Rattle.answering.proofs.Answering.{one_no, one_yes, first_refused_lem, later}
use Rattle.opening.proofs.Opened.{years_known_lem, opening_yes}
use Rattle.hindsight_questions.proofs.Passed.{settings_known}
use Rattle.hindsight.specs.Stages.{filled_of}
use Rattle.hindsight.proofs.doonamurk_hindsight.Statement.{statement}
use Rattle.hindsight.proofs.doonamurk_hindsight.Tie as tie

-- a call that has asked all its questions
answered : (s settings : List ℕ) (held left : List ℤ) (n : ℕ) → AnswersWith (hindsight_questions s settings (length held)) (filled_of s settings held) held left n
    → (n ≡ hindsight_answer s settings (length held)) × (left ≡ hindsight_into s settings held)
unfolding hindsight_answer hindsight_into
answered s settings held left n h = h

opens-requires : tie.Need-opens-answer-requires
opens-requires c κs = search rules

abbrev start : tie.After-opens-answer → tie.Start
start c = c.before.before.before

-- the lent report once it is filled
abbrev report : tie.Start → List ℤ
report s = filled_of s.args.packed.now s.args.settings.now s.args.report.now

returns : tie.Need-returns-then-answer-ne-ACCEPTED
unfolding hindsight_questions
returns c =
    let at = c.before in
    let s = start at in
    let packed = s.args.packed.now in
    answered packed s.args.settings.now s.args.report.now _ _
    (first_refused_lem (report s) s.args.report.now (opening_questions packed) _ at.opens-answer.result (sym at.opens-answer.ensures) c.if-answer-ne-ACCEPTED.true)

yes-opening : (c : tie.Else-answer-ne-ACCEPTED) → first_no (opening_questions (start c.before).args.packed.now) ≡ 0
yes-opening c = sym c.before.opens-answer.ensures ∙ c.if-answer-ne-ACCEPTED.false

last-year-of-requires : tie.Need-last_year_of-k-requires
last-year-of-requires c κs =
    let packed = (start c.before).args.packed.now in
    (years_known_lem packed (opening_yes packed (yes-opening c)).0).0

settings-pass-requires : tie.Need-settings_pass-requires
settings-pass-requires c κs = search rules

-- 29, of the record
abbrev else1 : tie.After-settings_pass → tie.Else-answer-ne-ACCEPTED
else1 c = c.before.before

asked : (c : tie.After-settings_pass) → let s = start (else1 c).before in c.settings_pass.result ≡ settings_pass (last_year_of s.args.packed.now) s.args.settings.now
asked c = rw c.before.last_year_of-k.ensures.0 at c.settings_pass.ensures

returns-2 : tie.Need-returns-then-not-settings_pass
unfolding hindsight_questions opening_questions every
returns-2 c =
    let one = else1 c.before in
    let s = start one.before in
    let packed = s.args.packed.now in
    let held = s.args.report.now in
    let no = sym (asked c.before) ∙ c.if-not-settings_pass.true in
    answered packed s.args.settings.now held _ _
    (later (report s) held (opening_questions packed) _ held 29 refl (yes-opening one) (first_refused_lem (report s) held ((29, _) ∷ []) _ 29 (one_no 29 _ no) (λ z. omega arith)))

yes-settings : (c : tie.Else-not-settings_pass) → let s = start (else1 c.before).before in settings_pass (last_year_of s.args.packed.now) s.args.settings.now ≡ true
yes-settings c = sym (asked c.before) ∙ c.if-not-settings_pass.false

holds-report-requires : tie.Need-holds_report-requires
holds-report-requires c κs =
    let last = c.before.before in
    let s = start last.before.before in
    let tried = settings_known (last_year_of s.args.packed.now) s.args.settings.now (yes-settings c) in
    ((omega (arith, last.last_year_of-k.ensures.0, tried.years), last.last_year_of-k.ensures.1), tried.few)

-- 3, of the record
held-asked : (c : tie.After-holds_report) →
    let s = start (else1 c.before.before).before in
    c.holds_report.result ≡ holds_report (last_year_of s.args.packed.now) (length s.args.settings.now) (length s.args.report.now)
held-asked c = rw c.before.before.before.last_year_of-k.ensures.0 at c.holds_report.ensures

returns-3 : tie.Need-returns-then-not-holds_report
unfolding hindsight_questions opening_questions every
returns-3 c =
    let two = c.before.before in
    let one = else1 two.before in
    let s = start one.before in
    let packed = s.args.packed.now in
    let held = s.args.report.now in
    let no = sym (held-asked c.before) ∙ c.if-not-holds_report.true in
    answered packed s.args.settings.now held _ _
    (later (report s) held (opening_questions packed) _ held 3 refl (yes-opening one)
    (later (report s) held ((29, _) ∷ []) _ held 3 refl (one_yes 29 _ (yes-settings two)) (first_refused_lem (report s) held ((3, _) ∷ []) _ 3 (one_no 3 _ no) (λ z. omega arith))))

yes-room : (c : tie.Else-not-holds_report) →
    let s = start (else1 c.before.before.before).before in
    holds_report (last_year_of s.args.packed.now) (length s.args.settings.now) (length s.args.report.now) ≡ true
yes-room c = sym (held-asked c.before) ∙ c.if-not-holds_report.false

run-record-requires : tie.Need-run_record-requires
unfolding holds_report
run-record-requires c κs =
    let three = c.before in
    let two = three.before.before in
    let s = start (else1 two.before).before in
    (yes-opening (else1 two.before), (yes-settings two, leb-true (hindsight_count (last_year_of s.args.packed.now) (length s.args.settings.now)) (length s.args.report.now) (yes-room three)))

same_length : tie.Need-shape_of-report
same_length c = search rules

returns-4 : tie.Need-returns
unfolding hindsight_questions opening_questions every
returns-4 c =
    let run = c.before in
    let three = run.before.before in
    let two = three.before.before in
    let one = else1 two.before in
    let s = start one.before in
    let packed = s.args.packed.now in
    let held = s.args.report.now in
    answered packed s.args.settings.now held _ _
    (later (report s) held (opening_questions packed) _ _ _ refl (yes-opening one)
    (later (report s) held ((29, _) ∷ []) _ _ _ refl (one_yes 29 _ (yes-settings two)) (later (report s) held ((3, _) ∷ []) _ _ _ refl (one_yes 3 _ (yes-room three)) run.run_record.ensures)))

pub doonamurk_hindsight_spec : {M : Type 1} → statement M
doonamurk_hindsight_spec =
    tie.close
    (tie.spec
    opens-requires
    returns
    last-year-of-requires
    settings-pass-requires
    returns-2
    holds-report-requires
    returns-3
    run-record-requires
    same_length
    returns-4)
