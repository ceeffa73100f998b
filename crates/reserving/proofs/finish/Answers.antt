-- Each stage leaves the figures' own arrays (Later), and each answer is that of a segment of the questions (first_refused_lem, later). Assumes nothing.
use native.Mathlib.Omega.{arith}
use mathlib.Core.Path.{◌≡◌, refl, sym, ap, ◌∙◌}
use mathlib.Core.Bool.{true, false}
use mathlib.Core.List.{List, ◌++◌}
use Prim.Native.Nat.{ℕ}
use lib.IntN.{ℤ}
use lib.Seq.{sets}
use Rattle.rules.specs.Lists.{every}
use Rattle.rules.specs.Questions.{first_no}
use Rattle.rules.specs.Record.{Figures}
use Rattle.rules.specs.Completion.{ultimates_pass}
use Rattle.rules.specs.Expense.{paid_total, ulae_total, ratio_pass}
use Rattle.rules.specs.Growth.{growth_questions}
use Rattle.rules.specs.Ladder.{completed_all, completed_pass}
use Rattle.rules.specs.Results.{paid_in, provisions_in, development_in}
use Rattle.rules.specs.Engine.{completion_questions, ratio_questions, correction_questions, completed_ladder_questions, last_questions}
use Rattle.reserving.specs.Stages.{Separated, Answers, filled}
use Rattle.answering.proofs.Answering.{one_no, one_yes, refused, accepted, first_refused_lem, later}
use Rattle.reserving.proofs.Later as stage
use Rattle.reserving.proofs.Later.{Worked}
use Rattle.reserving.proofs.finish.Goals as goal
use Rattle.reserving.proofs.finish.Goals.{After-complete-2}

-- the figures of which something was shown before
abbrev F : {f : Figures} {s : List (List ℤ)} {m c r l : List ℕ} → Separated f s m c r l → Figures
F {f} h = f

-- the questions before 14 have said yes
before-14 : (year : ℕ) (f : Figures) (out left : List ℤ) (n : ℕ) → ultimates_pass f.k (paid_in f) (provisions_in f) ≡ true
    → ratio_pass (paid_total f.k f.increments) (ulae_total f.k f.ulae) ≡ true → first_no (correction_questions year f) ≡ 0
    → Answers (completed_ladder_questions f) year f out left n → Answers (last_questions year f) year f out left n
unfolding last_questions completion_questions ratio_questions correction_questions growth_questions every
before-14 year f out left n eleven twelve correction a =
    later (filled year f out) out (completion_questions f) _ left n refl (one_yes 11 _ eleven)
    (later (filled year f out) out (ratio_questions f) _ left n refl (one_yes 12 _ twelve)
    (later (filled year f out) out (correction_questions year f) _ left n refl correction a))

pub fill_levels-requires : goal.fill_levels-requires
fill_levels-requires c =
    let h = c.requires.0 in
    (h.sound.few, (stage.levels_fit _ _ _ _ _ _ h _, h.sound.indices))

pub complete-requires : goal.complete-requires
complete-requires c =
    let h = c.requires.0 in
    (stage.completable _ _ _ _ _ _ h _ c.fill_levels.ensures, (stage.tails_fit _ _ _ _ _ _ h _ c.requires.1.0, stage.paid_fits _ _ _ _ _ _ h))

-- question 11
pub returns-then-not-complete : goal.returns-then-not-complete
unfolding last_questions completion_questions
returns-then-not-complete c =
    let h = c.requires.0 in
    let f = F h in
    let out = c.args.out.now in
    let no = stage.eleven_said _ _ _ _ _ _ h _ c.fill_levels.ensures _ c.requires.1.0 _ c.complete.ensures.0 _ c.if-not-complete.true in
    first_refused_lem (filled c.args.year f out) out (completion_questions f) _ 11 (one_no 11 _ no) (λ z. omega arith)

pub ratio_of-used-requires : goal.ratio_of-used-requires
ratio_of-used-requires c =
    let h = c.requires.0 in
    let yes = stage.eleven_said _ _ _ _ _ _ h _ c.fill_levels.ensures _ c.requires.1.0 _ c.complete.ensures.0 _ c.if-not-complete.false in
    let own = stage.provisions_are _ _ _ _ _ _ h _ c.fill_levels.ensures _ c.requires.1.0 yes _ c.complete.ensures.1.1 in
    (h.sound.increments, stage.rateable _ _ _ _ _ _ h _ own yes)

-- questions 12, 15, 16 and 17
pub returns-then-used-ne-ACCEPTED : goal.returns-then-used-ne-ACCEPTED
unfolding last_questions completion_questions ratio_questions every
returns-then-used-ne-ACCEPTED c =
    let h = c.requires.0 in
    let f = F h in
    let year = c.args.year in
    let out = c.args.out.now in
    let n = c.ratio_of-used.result.answer in
    let yes = stage.eleven_said _ _ _ _ _ _ h _ c.fill_levels.ensures _ c.requires.1.0 _ c.complete.ensures.0 _ c.if-not-complete.false in
    let own = stage.provisions_are _ _ _ _ _ _ h _ c.fill_levels.ensures _ c.requires.1.0 yes _ c.complete.ensures.1.1 in
    let asked = stage.asked_is _ _ _ _ _ _ h _ own year _ _ c.ratio_of-used.ensures in
    later (filled year f out) out (completion_questions f) _ out n refl (one_yes 11 _ yes)
    (first_refused_lem (filled year f out) out (ratio_questions f ++ correction_questions year f) _ n asked c.if-used-ne-ACCEPTED.true)

pub complete-requires-2 : goal.complete-requires-2
complete-requires-2 c =
    let h = c.requires.0 in
    (h.sound.few, (stage.paid_fits _ _ _ _ _ _ h, stage.factors_fit _ _ _ _ _ _ h))

-- question 14
pub returns-then-not-complete-2 : goal.returns-then-not-complete-2
unfolding completed_ladder_questions
returns-then-not-complete-2 c =
    let h = c.requires.0 in
    let f = F h in
    let year = c.args.year in
    let out = c.args.out.now in
    let yes = stage.eleven_said _ _ _ _ _ _ h _ c.fill_levels.ensures _ c.requires.1.0 _ c.complete.ensures.0 _ c.if-not-complete.false in
    let own = stage.provisions_are _ _ _ _ _ _ h _ c.fill_levels.ensures _ c.requires.1.0 yes _ c.complete.ensures.1.1 in
    let twelve = stage.yes_twelve _ _ _ _ _ _ h _ own year _ _ c.ratio_of-used.ensures c.if-used-ne-ACCEPTED.false in
    let correction = stage.yes_correction _ _ _ _ _ _ h _ own year _ _ c.ratio_of-used.ensures c.if-used-ne-ACCEPTED.false in
    let no : completed_pass (completed_all f.k (paid_in f) (development_in f)) ≡ false = sym (c.complete-2.ensures.0 ∙ stage.fourteen_is _ _ _ _ _ _ h) ∙ (cc) in
    before-14 year f out _ 14 yes twelve correction
    (refused (filled year f out) out (completed_ladder_questions f) 14 (one_no 14 _ no) (λ z. omega arith))

-- all that was worked out
work : (c : After-complete-2) → c.complete-2.result ≡ true
    → Worked c.args.year (F c.requires.0) c.fill_levels.new.levels c.complete.new.payments c.complete.new.sums c.ratio_of-used.result.ratio c.complete-2.new.all
work c passed =
    let h = c.requires.0 in
    let year = c.args.year in
    let t = c.requires.1.0 in
    let ahead = c.fill_levels.ensures in
    let yes = stage.eleven_said _ _ _ _ _ _ h _ ahead _ t _ c.complete.ensures.0 _ c.if-not-complete.false in
    let own = stage.provisions_are _ _ _ _ _ _ h _ ahead _ t yes _ c.complete.ensures.1.1 in
    let asked = c.ratio_of-used.ensures in
    let none = c.if-used-ne-ACCEPTED.false in
    let fourteen = sym (c.complete-2.ensures.0 ∙ stage.fourteen_is _ _ _ _ _ _ h) ∙ passed in
    stage.worked year (F h) yes (stage.yes_twelve _ _ _ _ _ _ h _ own year _ _ asked none) (stage.yes_correction _ _ _ _ _ _ h _ own year _ _ asked none) fourteen
    (stage.ahead_is _ _ _ _ _ _ h _ ahead)
    (stage.payments_are _ _ _ _ _ _ h _ ahead _ t yes _ c.complete.ensures.1.0)
    own
    (stage.used_is _ _ _ _ _ _ h _ own year _ _ asked none)
    (stage.completed_are _ _ _ _ _ _ h _ fourteen c.complete-2.ensures.1)

pub put_results-requires : goal.put_results-requires
put_results-requires c =
    (stage.printable _ _ _ _ _ _ c.requires.0 _ _ _ _ _ c.args.year (work (goal.at.put_results-requires c).After-complete-2 cc) _ c.requires.1.0, c.requires.1.1)

pub returns : goal.returns
unfolding completed_ladder_questions
returns c =
    let h = c.requires.0 in
    let f = F h in
    let year = c.args.year in
    let out = c.args.out.now in
    let w = work (goal.at.returns c).After-complete-2 cc in
    before-14 year f out _ 0 w.eleven w.twelve w.correction
    (accepted (filled year f out) out (completed_ladder_questions f) c.put_results.new.out (one_yes 14 (completed_pass (completed_all f.k (paid_in f) (development_in f))) w.fourteen)
    (c.put_results.ensures ∙ ap (sets out 0) (stage.printed_is _ _ _ _ _ _ h _ _ _ _ _ year w _ c.requires.1.0)))
