-- The order of the questions, and what request 6 of document 02 changed, which put question 13 directly after 6: the answers that changed are just those of the records
-- that pass 1 to 6, fail 13 and fail one of 7 to 12 or 15 to 19, and they get 13; no list changed. Of the crates this one alone has the order of before. Assumes nothing.
use Prim.Native.Nat.{ℕ}
use mathlib.Core.Path.{◌≡◌, refl, ap, ◌∙◌}
use mathlib.Core.Bool.{Bool, cond, not, ◌&&◌, not-not}
use mathlib.Core.List.{List, [], ◌∷◌, ◌++◌, map}
use lib.Dec.{eqb}
use lib.IntN.{ℤ}
use lib.ListN.{length}
use lib.Seq.{sets}
use Rattle.rules.specs.Lists.{every}
use Rattle.rules.specs.Questions.{first_no, questions_before, after_call}
use Rattle.rules.specs.Record.{Figures, figures_of}
use Rattle.rules.specs.Reading.{opening_questions, field_questions}
use Rattle.rules.specs.Triangle.{cumulatives_pass}
use Rattle.rules.specs.Separation.{separation_questions}
use Rattle.rules.specs.Tail.{tail_questions}
use Rattle.rules.specs.Growth.{growth_questions}
use Rattle.rules.specs.Results.{square_of, first_tail_average_of, results_of}
use Rattle.rules.specs.Engine.{development_passes, development_questions, completion_questions, ratio_questions, correction_questions, completed_ladder_questions, last_questions, later_questions, figure_questions, holds_list, questions, run_answer, run_into}
use Rattle.laws.proofs.Questions.{moved_answer, moved_changes, moved_call}

-- the numbers in their order: 6 and directly after it 13, 18 and 19 directly before 11, 15 to 17 directly after 12, and 14 last
pub in_order : (year : ℕ) (s : List ℕ) (m : ℕ)
    → map (λ (q : ℕ × Bool). q.0) (questions year s m) ≡ 1 ∷ 2 ∷ 3 ∷ 4 ∷ 5 ∷ 6 ∷ 13 ∷ 7 ∷ 8 ∷ 9 ∷ 10 ∷ 18 ∷ 19 ∷ 11 ∷ 12 ∷ 15 ∷ 16 ∷ 17 ∷ 14 ∷ []
unfolding questions opening_questions field_questions figure_questions development_questions separation_questions later_questions tail_questions last_questions completion_questions ratio_questions correction_questions growth_questions completed_ladder_questions
in_order year s m = refl

-- 7 to 12 and 15 to 19, which 13 stood behind
abbrev pub overtaken : ℕ → Figures → List (ℕ × Bool)
overtaken year f =
    separation_questions (square_of f) f.k
    ++ (tail_questions f.k (first_tail_average_of f) f.indices ++ (completion_questions f ++ (ratio_questions f ++ correction_questions year f)))

-- 1 to 6
abbrev pub to_six : List ℕ → ℕ → List (ℕ × Bool)
to_six s m =
    opening_questions s ++ ((3, holds_list s m) ∷ (field_questions s ++ ((6, cumulatives_pass (figures_of s).k (figures_of s).increments) ∷ [])))

-- the order of before: 13 directly before 14
abbrev pub former_questions : ℕ → List ℕ → ℕ → List (ℕ × Bool)
former_questions year s m = let f = figures_of s in to_six s m ++ (overtaken year f ++ (development_questions f ++ completed_ladder_questions f))

pub in_former_order : (year : ℕ) (s : List ℕ) (m : ℕ)
    → map (λ (q : ℕ × Bool). q.0) (former_questions year s m) ≡ 1 ∷ 2 ∷ 3 ∷ 4 ∷ 5 ∷ 6 ∷ 7 ∷ 8 ∷ 9 ∷ 10 ∷ 18 ∷ 19 ∷ 11 ∷ 12 ∷ 15 ∷ 16 ∷ 17 ∷ 13 ∷ 14 ∷ []
unfolding opening_questions field_questions development_questions separation_questions tail_questions completion_questions ratio_questions correction_questions growth_questions completed_ladder_questions
in_former_order year s m = refl

-- those before 13, by place, are 1 to 6
pub before_thirteen : (year : ℕ) (s : List ℕ) (m : ℕ) → questions_before 13 (questions year s m) ≡ to_six s m
unfolding questions_before questions opening_questions field_questions figure_questions development_questions
before_thirteen year s m = refl

abbrev pub former_answer : ℕ → List ℕ → ℕ → ℕ
former_answer year s m = first_no (former_questions year s m)

-- whether 1 to 6 say yes, 13 says no, and so does one of 7 to 12 or 15 to 19
abbrev pub gets_thirteen : ℕ → List ℕ → ℕ → Bool
gets_thirteen year s m =
    let f = figures_of s in
    eqb (first_no (to_six s m)) 0 && (not (development_passes f) && not (eqb (first_no (overtaken year f)) 0))

-- for every valuation year, record and result buffer: the answer is another one just for these; it is 13 then, and otherwise that of before; and a run leaves in the buffer what
-- one in the order of before leaves
pub record Moved (year : ℕ) (s : List ℕ) : Type 0 where
  pub changes : (m : ℕ) → not (eqb (run_answer year s m) (former_answer year s m)) ≡ gets_thirteen year s m
  pub answer : (m : ℕ) → run_answer year s m ≡ cond (gets_thirteen year s m) 13 (former_answer year s m)
  pub results : (out : List ℤ) → run_into year s out ≡ after_call (former_answer year s (length out)) (sets out 0 (results_of year (figures_of s))) out

pub moved : (year : ℕ) (s : List ℕ) → Moved year s
unfolding run_answer run_into questions opening_questions field_questions figure_questions development_questions separation_questions later_questions tail_questions last_questions completion_questions ratio_questions correction_questions growth_questions completed_ladder_questions every
moved year s =
    let f = figures_of s in
    let q : ℕ × Bool = (13, development_passes f) in
    record {
      changes = λ m. ap not (moved_changes (to_six s m) (overtaken year f) (completed_ladder_questions f) q refl refl refl) ∙ not-not (gets_thirteen year s m);
      answer = λ m. moved_answer (to_six s m) (overtaken year f) (completed_ladder_questions f) q refl refl;
      results = λ out. moved_call (to_six s (length out)) (overtaken year f) (completed_ladder_questions f) q refl refl (sets out 0 (results_of year f)) out;
    }
