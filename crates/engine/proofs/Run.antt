-- A run of the engine: its answer, its buffer, and the third demand of an accepted one. Assumes nothing.
use Prim.Native.Nat.{ℕ, ◌+◌, ◌≤◌}
use native.Mathlib.Omega.{arith}
use borrow.Author.Tests.{leb-true}
use mathlib.Core.Path.{◌≡◌, refl, sym, ◌∙◌}
use mathlib.Core.List.{List, [], ◌∷◌}
use lib.IntN.{ℤ}
use lib.ListN.{length, drop}
use lib.Seq.{sets, sets-eq}
use Rattle.rules.specs.Lists.{every}
use Rattle.rules.specs.Packing.{Fit}
use Rattle.rules.specs.Questions.{first_no, after_call}
use Rattle.rules.specs.Record.{last_year_of, figures_of}
use Rattle.rules.specs.Reading.{opening_questions, field_questions}
use Rattle.rules.specs.Results.{results_of, result_count}
use Rattle.rules.specs.Demand.{ThirdDemand}
use Rattle.rules.specs.Engine.{figure_questions, holds_list, questions, run_answer, run_into}
use Rattle.laws.proofs.Questions.{both_zero}
use Rattle.reading.proofs.FiguresRead.{sound_figures}
use Rattle.results.proofs.SectionPlaces.{results_length}
use Rattle.results.proofs.Demanded.{third_demand}
use Rattle.reserving.specs.Stages.{Answers}
use Rattle.answering.proofs.Answering.{one_said}
use Rattle.engine.proofs.RunQuestions.{answered}

-- what a run that answers n and leaves `held` in the buffer `out` has to show
abbrev pub Ran : ℕ → List ℕ → List ℤ → ℕ → List ℤ → Type 0
Ran year s out n held = (n ≡ run_answer year s (length out)) × ((held ≡ run_into year s out) × (n ≡ 0 → ThirdDemand (figures_of s) held))

module _ (year : ℕ) (s : List ℕ) (out : List ℤ) (bytes : Fit 8 s) where
  -- the third demand, of what an accepted run leaves
  demanded : first_no (questions year s (length out)) ≡ 0 → ThirdDemand (figures_of s) (sets out 0 (results_of year (figures_of s)))
  unfolding questions opening_questions field_questions holds_list figures_of every
  demanded h =
      let f = figures_of s in
      let first = both_zero (opening_questions s) ((3, holds_list s (length out)) ∷ _) refl h in
      let room = both_zero ((3, holds_list s (length out)) ∷ []) _ refl first.1 in
      let fields = both_zero (field_questions s) (figure_questions year f) refl room.1 in
      let fits : 0 + length (results_of year f) ≤ length out = omega (arith, results_length year f, leb-true (result_count (last_year_of s)) (length out) (one_said 2 (holds_list s (length out)) room.0)) in
      rw (sets-eq (results_of year f) out 0 fits)
      (third_demand year f (sound_figures s bytes first.0 fields.0) (answered year f fields.1) (drop (0 + length (results_of year f)) out))

  -- a run that has asked all its questions
  pub ran : (n : ℕ) (held : List ℤ) → Answers (questions year s (length out)) year (figures_of s) out held n → Ran year s out n held
  unfolding run_answer run_into after_call
  ran n held h = (h.0, (h.1, λ z. let none = sym h.0 ∙ z in rw (h.1, none) (demanded none)))
