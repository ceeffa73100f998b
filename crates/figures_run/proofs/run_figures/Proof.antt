-- Questions 6 and 13, the separation and what follows it are asked in turn, and each answer is that of a segment of the questions. Assumes nothing.
use borrow.Author.Rules.{rules}
use native.Mathlib.Omega.{arith}
use mathlib.Core.Path.{◌≡◌, refl, sym, ap, ◌∙◌}
use mathlib.Core.Bool.{Bool, true}
use Prim.Native.Nat.{ℕ, ◌+◌}
use mathlib.Core.List.{List, [], ◌∷◌, ◌++◌}
use lib.IntN.{ℤ}
use Rattle.rules.specs.Lists.{up_to, every}
use Rattle.rules.specs.Record.{Figures}
use Rattle.rules.specs.Triangle.{cumulatives_pass}
use Rattle.rules.specs.Separation.{separation_questions, separate_answer}
use Rattle.rules.specs.Results.{square_of, paid_in, development_in}
use Rattle.rules.specs.declared.Factors.{Factors}
use Rattle.rules.specs.Engine.{development_passes, development_questions, figure_questions, later_questions}
use Rattle.answering.proofs.Answering.{one_no, one_yes, first_refused_lem, later}
use Rattle.triangle.specs.Columns.{column_sum}
use Rattle.totals.specs.Summed.{Summed}
use Rattle.reserving.specs.Stages.{Answers, filled}
use Rattle.figures_run.proofs.Before as stage
use Rattle.figures_run.proofs.Development as ladder
use Rattle.figures_run.proofs.run_figures.Statement.{statement}
use Rattle.figures_run.proofs.run_figures.Tie as tie

abbrev F : tie.Start → Figures
F s = s.args.figures.now

fill-rows-requires : tie.Need-fill_rows-requires
fill-rows-requires c κs =
    let good = c.before.before.before.before.before.requires.0 in
    (good.few, (good.exposures, (good.increments, (refl, (refl, refl)))))

-- question 6
abbrev start1 : tie.After-fill_rows → tie.Start
start1 c = c.before.before.before.before.before.before

yes-six : (c : tie.Else-not-fill_rows) → cumulatives_pass (F (start1 c.before)).k (F (start1 c.before)).increments ≡ true
yes-six c = sym c.before.fill_rows.ensures.0 ∙ c.if-not-fill_rows.false

returns : tie.Need-returns-then-not-fill_rows
unfolding figure_questions
returns c =
    let s = start1 c.before in
    let no = sym c.before.fill_rows.ensures.0 ∙ c.if-not-fill_rows.true in
    first_refused_lem (filled s.args.year (F s) s.args.out.now) s.args.out.now ((6, _) ∷ []) _ 6 (one_no 6 _ no) (λ z. omega arith)

-- the sums of the cumulatives' columns, and the paid cumulatives
sums_are : (c : tie.Else-not-fill_rows) →
    let s = start1 c.before in
    c.before.fill_rows.new.sums ≡ up_to (column_sum (F s).k (F s).increments ((F s).k + 1)) 16
sums_are c = stage.sums_are (F (start1 c.before)) (yes-six c) _ c.before.fill_rows.ensures.1.1.0

paid_are : (c : tie.Else-not-fill_rows) → c.before.fill_rows.new.paid ≡ paid_in (F (start1 c.before))
paid_are c = stage.paid_are (F (start1 c.before)) (yes-six c) _ c.before.fill_rows.ensures.1.1.1.0

-- question 13
development-factors-requires : tie.Need-development_factors-requires
development-factors-requires c κs =
    let six = c.before.before.before in
    let s = start1 six.before in
    ladder.ladderable (F s) s.requires.0.few _ _ (sums_are six) (paid_are six) (yes-six six)

abbrev six13 : tie.After-development_factors → tie.Else-not-fill_rows
six13 c = c.before.before.before.before

thirteen : (c : tie.After-development_factors) →
    let f = F (start1 (six13 c).before) in
    c.development_factors.result ≡ development_passes f
thirteen c =
    let six = six13 c in
    let s = start1 six.before in
    c.development_factors.ensures.0 ∙ ladder.thirteen_is (F s) s.requires.0.few _ _ (sums_are six) (paid_are six)

yes-thirteen : (c : tie.Else-not-development_factors) →
    let f = F (start1 (six13 c.before).before) in
    development_passes f ≡ true
yes-thirteen c = sym (thirteen c.before) ∙ c.if-not-development_factors.false

development_are : (c : tie.Else-not-development_factors) → c.before.development_factors.new.factors ≡ development_in (F (start1 (six13 c.before).before))
development_are c =
    let six = six13 c.before in
    let s = start1 six.before in
    ladder.development_are (F s) s.requires.0.few _ _ (sums_are six) (paid_are six) (yes-thirteen c) _ c.before.development_factors.ensures.1

returns-2 : tie.Need-returns-then-not-development_factors
unfolding figure_questions development_questions every
returns-2 c =
    let at = c.before in
    let six = six13 at in
    let s = start1 six.before in
    let f = F s in
    let out = s.args.out.now in
    let no = sym (thirteen at) ∙ c.if-not-development_factors.true in
    later (filled s.args.year f out) out ((6, _) ∷ []) _ out 13 refl (one_yes 6 _ (yes-six six))
    (first_refused_lem (filled s.args.year f out) out (development_questions f) _ 13 (one_no 13 _ no) (λ z. omega arith))

-- they have said yes, and others are asked
after-13 : (c : tie.Else-not-development_factors) (qs : List (ℕ × Bool)) (left : List ℤ) (n : ℕ) →
    let s = start1 (six13 c.before).before in
    let f = F s in
    Answers qs s.args.year f s.args.out.now left n
    → Answers ((6, cumulatives_pass f.k f.increments) ∷ (development_questions f ++ qs)) s.args.year f s.args.out.now left n
unfolding development_questions every
after-13 c qs left n a =
    let six = six13 c.before in
    let s = start1 six.before in
    let f = F s in
    let out = s.args.out.now in
    later (filled s.args.year f out) out ((6, _) ∷ []) _ left n refl (one_yes 6 _ (yes-six six))
    (later (filled s.args.year f out) out (development_questions f) _ left n refl (one_yes 13 _ (yes-thirteen c)) a)

-- the square, and the answer of questions 7 to 10
square_is : (c : tie.Else-not-fill_rows) → c.before.fill_rows.new.square ≡ square_of (F (start1 c.before))
square_is c = stage.square_is (F (start1 c.before)) (yes-six c) _ c.before.fill_rows.ensures.1.0

-- its totals
summed : (c : tie.Else-not-fill_rows) →
    let s = start1 c.before in
    Summed (square_of (F s)) (F s).k c.before.fill_rows.new.columns c.before.fill_rows.new.diagonals
summed c = let s = start1 c.before in stage.totals_are (F s) (yes-six c) s.requires.0 _ _ c.before.fill_rows.ensures.1.1.1.1

separate-totals-requires : tie.Need-separate_totals-separation-requires
separate-totals-requires c κs =
    let six = six13 c.before.before.before in
    let s = start1 six.before in
    (s.requires.0.few, (square_of (F s), summed six))

abbrev yes13 : tie.After-separate_totals-separation → tie.Else-not-development_factors
yes13 c = c.before.before.before

abbrev start2 : tie.After-separate_totals-separation → tie.Start
start2 c = start1 (six13 (yes13 c).before).before

answer-is : (c : tie.After-separate_totals-separation) →
    let s = start2 c in
    c.separate_totals-separation.result.answer ≡ separate_answer (square_of (F s)) (F s).k
answer-is c =
    let s = start2 c in
    (c.separate_totals-separation.ensures (square_of (F s)) (summed (six13 (yes13 c).before))).0

returns-3 : tie.Need-returns-then-separation-ne-ACCEPTED
unfolding figure_questions separate_answer
returns-3 c =
    let at = c.before.before in
    let s = start2 at in
    let f = F s in
    let n = at.separate_totals-separation.result.answer in
    after-13 (yes13 at) _ _ n (first_refused_lem (filled s.args.year f s.args.out.now) s.args.out.now (separation_questions (square_of f) f.k) _ n (sym (answer-is at)) c.if-separation-ne-ACCEPTED.true)

-- the separation is accepted
abbrev separate3 : tie.Else-separation-ne-ACCEPTED → tie.After-separate_totals-separation
separate3 c = c.before.before

accepted-is : (c : tie.Else-separation-ne-ACCEPTED) →
    let s = start2 (separate3 c) in
    separate_answer (square_of (F s)) (F s).k ≡ 0
accepted-is c = sym (answer-is (separate3 c)) ∙ c.if-separation-ne-ACCEPTED.false

run-separated-requires : tie.Need-run_separated-requires
run-separated-requires c κs =
    let three = c.before.before.before.before.before.before.before in
    let at = separate3 three in
    let yes = yes13 at in
    let six = six13 yes.before in
    let s = start2 at in
    let f = F s in
    let factors = stage.factors_are f at.separate_totals-separation.result.factors (at.separate_totals-separation.ensures (square_of f) (summed six)).1 (accepted-is three) in (
      record {
        sound = s.requires.0;
        cumulatives = yes-six six;
        square = square_is six;
        development = yes-thirteen yes;
        factors = development_are yes;
        paid = paid_are six;
        accepted = accepted-is three;
        shares = ap (λ (g : Factors). g.shares) factors;
        levels = ap (λ (g : Factors). g.levels) factors;
      },
      s.requires.1,
    )

same_length : tie.Need-shape_of-out
same_length c = search rules

returns-4 : tie.Need-returns
unfolding figure_questions separate_answer separation_questions every
returns-4 c =
    let call = c.before in
    let three = call.before.before.before.before.before.before.before.before in
    let at = separate3 three in
    let s = start2 at in
    let f = F s in
    after-13 (yes13 at) _ _ _
    (later (filled s.args.year f s.args.out.now) s.args.out.now (separation_questions (square_of f) f.k) (later_questions s.args.year f) _ _ refl (accepted-is three) call.run_separated.ensures)

pub run_figures_spec : {M : Type 1} → statement M
run_figures_spec =
    tie.close
    (tie.spec
    fill-rows-requires
    returns
    development-factors-requires
    returns-2
    separate-totals-requires
    returns-3
    run-separated-requires
    same_length
    returns-4)
