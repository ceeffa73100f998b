-- Question 6 is asked row by row while the averages are made, and the report is filled only after it. Assumes nothing.
use borrow.Author.Rules.{rules}
use native.Mathlib.Omega.{arith}
use mathlib.Core.Path.{◌≡◌, refl, sym, ◌∙◌}
use mathlib.Core.Bool.{true}
use mathlib.Core.List.{List, [], ◌∷◌}
use lib.IntN.{ℤ}
use Rattle.rules.specs.Triangle.{cumulatives_pass}
use Rattle.answering.proofs.Answering.{one_no, one_yes, refused, accepted}
use Rattle.triangle.proofs.AllRows.{square_all, totals_all}
use Rattle.hindsight_questions.proofs.Passed.{settings_known}
use Rattle.hindsight.specs.Stages.{filled_by}
use Rattle.hindsight.proofs.run_figures.Statement.{statement}
use Rattle.hindsight.proofs.run_figures.Tie as tie

fill-rows-requires : tie.Need-fill_rows-requires
fill-rows-requires c κs =
    let known = c.before.before.before.before.before.before.requires.0 in
    (known.few, (known.exposures, (known.increments, (refl, (refl, refl)))))

abbrev start : tie.After-fill_rows → tie.Start
start c = c.before.before.before.before.before.before.before

-- the lent report once it is filled
abbrev report : tie.Start → List ℤ
report s = filled_by s.args.k s.args.exposures.now s.args.increments.now s.args.settings.now s.args.report.now

returns : tie.Need-returns-then-not-fill_rows
returns c =
    let s = start c.before in
    let no = sym c.before.fill_rows.ensures.0 ∙ c.if-not-fill_rows.true in
    refused (report s) s.args.report.now ((6, _) ∷ []) 6 (one_no 6 _ no) (λ z. omega arith)

six : (c : tie.Else-not-fill_rows) → let s = start c.before in cumulatives_pass s.args.k s.args.increments.now ≡ true
six c = sym c.before.fill_rows.ensures.0 ∙ c.if-not-fill_rows.false

fill-report-requires : tie.Need-fill_report-requires
fill-report-requires c κs =
    let else = c.before.before.before.before in
    let s = start else.before in
    let k = s.args.k in
    let n = s.args.exposures.now in
    let p = s.args.increments.now in
    let rows = else.before.fill_rows.ensures.1 in
    let tried = settings_known s.args.k s.args.settings.now s.requires.1.0 in
    record {
      given = s.requires.0;
      some = omega (arith, tried.years);
      averages = square_all k n p (six else) _ rows.0;
      totals = totals_all k n p (six else) s.requires.0.few s.requires.0.exposures s.requires.0.increments _ _ rows.1.1.1;
      tried = tried.some;
      few = tried.few;
      indices = tried.indices;
      room = s.requires.1.1;
    }

same_length : tie.Need-shape_of-report
same_length c = search rules

returns-2 : tie.Need-returns
returns-2 c =
    let else = c.before.before.before.before.before.before in
    let s = start else.before in
    accepted (report s) s.args.report.now ((6, _) ∷ []) _ (one_yes 6 _ (six else)) c.before.fill_report.ensures.0

pub run_figures_spec : {M : Type 1} → statement M
run_figures_spec = tie.close (tie.spec fill-rows-requires returns fill-report-requires same_length returns-2)
