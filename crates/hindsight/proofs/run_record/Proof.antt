-- Questions 4 and 5 are asked by the reading, and the arrays that it fills are the figures' own (figures_filled). Assumes nothing.
use borrow.Author.Rules.{rules}
use native.Mathlib.Omega.{arith}
use mathlib.Core.Path.{◌≡◌, refl, sym, ◌∙◌}
use mathlib.Core.List.{List, [], ◌∷◌}
use Prim.Native.Nat.{ℕ}
use lib.IntN.{ℤ}
use Rattle.rules.specs.Lists.{every}
use Rattle.rules.specs.Packing.{Fit}
use Rattle.rules.specs.Questions.{first_no}
use Rattle.rules.specs.Record.{last_year_of, figures_of}
use Rattle.rules.specs.Reading.{field_questions}
use Rattle.rules.specs.Triangle.{cumulatives_pass}
use Rattle.rules.specs.Hindsight.{hindsight_of}
use Rattle.answering.specs.Answers.{AnswersWith}
use Rattle.answering.proofs.Answering.{first_refused_lem, later}
use Rattle.opening.proofs.Opened.{years_known_lem, opening_yes}
use Rattle.reading.proofs.FiguresRead.{figures_filled, sound_figures}
use Rattle.reading.specs.Reading.{Sound}
use Rattle.hindsight_gaps.specs.Fitted.{Given}
use Rattle.hindsight.specs.Stages.{filled_by, filled_of}
use Rattle.hindsight.proofs.run_record.Statement.{statement}
use Rattle.hindsight.proofs.run_record.Tie as tie

read-requires : tie.Need-read-opened-requires
read-requires c κs = search rules

abbrev start : tie.After-read-opened → tie.Start
start c = c.before.before.before.before.before.before.before.before

bytes : (c : tie.After-read-opened) → Fit 8 (start c).args.packed.now
bytes c i = omega (arith, c.before.before.before.before.before.before.before.shared_slice_known-1.given i)

-- the lent report once it is filled
abbrev report : tie.Start → List ℤ
report s = filled_of s.args.packed.now s.args.settings.now s.args.report.now

returns : tie.Need-returns-then-opened-ne-ACCEPTED
returns c =
    let at = c.before.before in
    let s = start at in
    first_refused_lem (report s) s.args.report.now (field_questions s.args.packed.now) _ at.read-opened.result.answer (sym at.read-opened.ensures.0) c.if-opened-ne-ACCEPTED.true

-- questions 4 and 5 have said yes
yes-fields : (c : tie.Else-opened-ne-ACCEPTED) → first_no (field_questions (start c.before.before).args.packed.now) ≡ 0
yes-fields c = sym c.before.before.read-opened.ensures.0 ∙ c.if-opened-ne-ACCEPTED.false

last-year-of-requires : tie.Need-last_year_of-requires
last-year-of-requires c κs =
    let s = start c.before.before in
    let packed = s.args.packed.now in
    (years_known_lem packed (opening_yes packed s.requires.0).0).0

-- what was read are the record's last year, exposures and increments
abbrev read_at : tie.After-last_year_of → tie.After-read-opened
read_at c = c.before.before.before

exposures-read : (c : tie.After-last_year_of) → let at = read_at c in at.read-opened.new.exposures ≡ (figures_of (start at).args.packed.now).exposures
exposures-read c =
    let at = read_at c in
    at.read-opened.ensures.1.1.0 ∙ (figures_filled (start at).args.packed.now (bytes at) (start at).requires.0 (yes-fields c.before)).exposures

increments-read : (c : tie.After-last_year_of) → let at = read_at c in at.read-opened.new.increments ≡ (figures_of (start at).args.packed.now).increments
increments-read c =
    let at = read_at c in
    at.read-opened.ensures.1.1.1.0 ∙ (figures_filled (start at).args.packed.now (bytes at) (start at).requires.0 (yes-fields c.before)).increments

module _ (s : List ℕ) (k : ℕ) (n : List ℕ) (p : List ℤ) (ek : k ≡ last_year_of s) (en : n ≡ (figures_of s).exposures) (ep : p ≡ (figures_of s).increments) where
  -- they have passed question 4
  given_by : Sound (figures_of s) → Given k n p
  unfolding figures_of
  given_by h = rw (ek, en, ep) (record { few = h.few; exposures = h.exposures; increments = h.increments })

  -- what is answered and left of them is so of the record
  answers_by : (settings : List ℕ) (held left : List ℤ) (r : ℕ) → AnswersWith ((6, cumulatives_pass k p) ∷ []) (filled_by k n p settings held) held left r
      → AnswersWith ((6, cumulatives_pass (last_year_of s) (figures_of s).increments) ∷ []) (filled_of s settings held) held left r
  unfolding hindsight_of figures_of
  answers_by settings held left r h = rw (ek, en, ep) at h

run-figures-requires : tie.Need-run_figures-requires
run-figures-requires c κs =
    let last = c.before.before.before in
    let at = read_at last in
    let s = start at in
    let packed = s.args.packed.now in (
      given_by packed _ _ _ last.last_year_of.ensures.0 (exposures-read last) (increments-read last) (sound_figures packed (bytes at) s.requires.0 (yes-fields last.before)),
      (rw last.last_year_of.ensures.0 s.requires.1.0, rw last.last_year_of.ensures.0 s.requires.1.1),
    )

same_length : tie.Need-shape_of-report
same_length c = search rules

returns-2 : tie.Need-returns
unfolding field_questions every
returns-2 c =
    let run = c.before in
    let last = run.before.before.before.before in
    let s = start (read_at last) in
    let packed = s.args.packed.now in
    later (report s) s.args.report.now (field_questions packed) _ _ _ refl (yes-fields last.before)
    (answers_by packed _ _ _ last.last_year_of.ensures.0 (exposures-read last) (increments-read last) s.args.settings.now s.args.report.now _ _ run.run_figures.ensures)

pub run_record_spec : {M : Type 1} → statement M
run_record_spec = tie.close (tie.spec read-requires returns last-year-of-requires run-figures-requires same_length returns-2)
