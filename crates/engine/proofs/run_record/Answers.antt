-- Questions 4 and 5 are asked by the reading, and the arrays that it fills are the figures' own (figures_filled). Assumes nothing.
use native.Mathlib.Omega.{arith}
use mathlib.Core.Path.{◌≡◌, refl, sym, ◌∙◌}
use Rattle.rules.specs.Lists.{every}
use Rattle.rules.specs.Packing.{Fit}
use Rattle.rules.specs.Questions.{first_no}
use Rattle.rules.specs.Record.{figures, figures_of}
use Rattle.rules.specs.Reading.{field_questions}
use Rattle.opening.proofs.Opened.{years_known_lem, opening_yes}
use Rattle.reading.proofs.FiguresRead.{figures_filled, sound_figures}
use Rattle.answering.proofs.Answering.{later}
use Rattle.reserving.specs.Stages.{filled}
use Rattle.engine.proofs.Figures.{figures_are}
use Rattle.engine.proofs.run_record.Goals as goal
use Rattle.engine.proofs.run_record.Goals.{After-last_year_of}

-- what the reading has left are the record's figures, where questions 4 and 5 say yes
figures-read : (c : After-last_year_of) → Fit 8 c.args.packed.now → first_no (field_questions c.args.packed.now) ≡ 0
    → figures c.last_year_of.result c.read-opened.new.exposures c.read-opened.new.increments c.read-opened.new.indices c.read-opened.new.reporting c.read-opened.result.weight c.read-opened.new.ulae c.read-opened.result.tail
    ≡ figures_of c.args.packed.now
figures-read c small accepted =
    let s = c.args.packed.now in
    let e = c.read-opened.ensures.1 in
    figures_are s (figures_filled s small c.requires.0 accepted) _ _ _ _ _ _ _ _ c.last_year_of.ensures.0 e.1.0 e.1.1.0 e.1.1.1.0 e.1.1.1.1.0 e.0 e.1.1.1.1.1.0 e.1.1.1.1.1.1

pub last_year_of-requires : goal.last_year_of-requires
last_year_of-requires c = (years_known_lem c.args.packed.now (opening_yes c.args.packed.now c.requires.0).0).0

pub run_figures-requires : goal.run_figures-requires
run_figures-requires c =
    let s = c.args.packed.now in
    let small : Fit 8 s = λ i. omega (arith, c.type_inv.packed i) in
    let yes : c.read-opened.result.answer ≡ 0 = omega arith in
    let accepted = sym c.read-opened.ensures.0 ∙ yes in
    (rw (figures-read (goal.at.run_figures-requires c).After-last_year_of small accepted) (sound_figures s small c.requires.0 accepted), rw c.last_year_of.ensures.0 c.requires.1)

pub returns : goal.returns
unfolding field_questions every
returns c =
    let s = c.args.packed.now in
    let small : Fit 8 s = λ i. omega (arith, c.type_inv.packed i) in
    let yes : c.read-opened.result.answer ≡ 0 = omega arith in
    let accepted = sym c.read-opened.ensures.0 ∙ yes in
    later (filled c.args.year (figures_of s) c.args.out.now) c.args.out.now (field_questions s) _ _ _ refl accepted (rw (figures-read (goal.at.returns c).After-last_year_of small accepted) at c.run_figures.ensures)
