-- Refusal 8 as a fact about the triangle: of a square of averages that has passed question 7, by the separation's answer, and of a record that has passed the
-- questions before 8, by the run's answer. Assumes nothing.
use mathlib.Core.Path.{◌≡◌, refl, sym, ◌∙◌}
use mathlib.Core.Bool.{Bool, true, false}
use mathlib.Core.List.{List, [], ◌∷◌}
use Prim.Native.Nat.{ℕ, suc, ◌+◌, ◌<◌}
use native.Mathlib.Numerals.{add-one}
use native.Mathlib.Omega.{arith}
use lib.Ieee.Bits.{is_true}
use lib.IntN.{ℤ, pos, ◌-ℤ◌}
use lib.Signed.{le_z}
use Rattle.rules.specs.Lists.{every}
use Rattle.rules.specs.Questions.{first_no, questions_before}
use Rattle.rules.specs.Record.{figures_of}
use Rattle.rules.specs.Reading.{opening_questions, field_questions}
use Rattle.rules.specs.Triangle.{column_total, diagonal_total, corner_total, ZeroOutside}
use Rattle.rules.specs.Separation.{column_of, diagonal_of, corner_of, totals_pass, rests_pass, separation_questions, separate_answer}
use Rattle.rules.specs.Exact.{Solves}
use Rattle.rules.specs.Positive.{Positive, Separable, Same}
use Rattle.rules.specs.Tail.{tail_questions}
use Rattle.rules.specs.Growth.{growth_questions}
use Rattle.rules.specs.Results.{square_of}
use Rattle.rules.specs.Engine.{development_questions, completion_questions, ratio_questions, correction_questions, completed_ladder_questions, last_questions, later_questions, figure_questions, questions, run_answer}
use Rattle.laws.proofs.Lists.{every_yes}
use Rattle.laws.proofs.Questions.{said, once, yes_said, no_said, no_answers, answer_passed}
use Rattle.layout.proofs.RecordSizes.{years_lt}
use Rattle.totals.proofs.Corners.{corner_down, corner_last}
use Rattle.totals.proofs.Whole.{totals, column_is, diagonal_is, column_least, rest_least}
use Rattle.totals.proofs.Square.{zero_outside}
use Rattle.accuracy.proofs.Existence.{exists}
use Rattle.solutions.specs.Eight.{Eight, OfSeparations, OfRecords, OfRefusals}
use Rattle.solutions.proofs.Identity.{Corners}
use Rattle.solutions.proofs.Named.{rest_above, all_positive, positive_none_zero, same}
use Rattle.solutions.proofs.Product.{products_solve}

module _ (s : List (List ℤ)) (k : ℕ) (out : ZeroOutside s k) where
  pub corners : Corners k (column_total s) (diagonal_total s) (corner_total s)
  corners = record { last = corner_last s k out; down = λ h lt. corner_down s h }

  -- a solution with the named sums positive: question 8 says yes, whatever question 7 says
  pub separable_passes : Separable s k → rests_pass s k ≡ true
  unfolding rests_pass
  separable_passes p =
      every_yes (λ h. le_z (pos 1) (corner_total s h -ℤ column_total s h)) (λ h. h + 1) k
      (λ h lt.
      let above = rest_above k p.D p.E (column_total s) (diagonal_total s) (corner_total s) p.r p.l corners p.solves p.positive h lt in
      rw (add-one h) (is_true (le_z (pos 1) (corner_total s (suc h) -ℤ column_total s (suc h))) above.le))

  -- where there is such a solution, every exact solution is that one
  pub only_one : (D E : ℕ) (r l : ℕ → ℤ) → Solves k D E (column_total s) (diagonal_total s) r l → Positive k r l
      → (F G : ℕ) (x y : ℕ → ℤ) → Solves k F G (column_total s) (diagonal_total s) x y → Same k D E r l F G x y
  only_one D E r l a p F G x y b = same k D E F G (column_total s) (diagonal_total s) (corner_total s) r l x y corners a (positive_none_zero k r l p) b

  module _ (q7 : totals_pass s k ≡ true) where
    -- where questions 7 and 8 say yes there is one
    passes_separable : rests_pass s k ≡ true → Separable s k
    passes_separable q8 =
        let found = exists k (column_of s) (diagonal_of s) (corner_of s) (totals s k q7 q8 out) (column_total s) (diagonal_total s) (column_is s k q7) (diagonal_is s k q7) in
        record {
          D = found.D;
          E = found.E;
          r = found.r;
          l = found.l;
          solves = found.solves;
          positive =
              all_positive k found.D found.E (column_total s) (diagonal_total s) (corner_total s) found.r found.l corners found.solves
              (λ h lt. column_least s k q7 (suc h) lt) (rest_least s k q7 q8);
        }

    -- whatever answers 8 where question 8 says no, and not 8 where it says yes
    module _ (few : k < 16) (answer : ℕ) (no-gives : rests_pass s k ≡ false → answer ≡ 8) (yes-not : rests_pass s k ≡ true → answer ≡ 8 → ⊥) where
      some_solution : (b : Bool) → rests_pass s k ≡ b → (answer ≡ 8 → ⊥) → Separable s k
      some_solution true e h = passes_separable e
      some_solution false e h = absurd (h (no-gives e))

      no_solution_lem : (b : Bool) → rests_pass s k ≡ b → (Separable s k → ⊥) → answer ≡ 8
      no_solution_lem true e h = absurd (h (passes_separable e))
      no_solution_lem false e h = no-gives e

      pub eight : Eight s k answer
      eight = record {
        refused = λ e p. yes-not (separable_passes p) e;
        none = no_solution_lem (rests_pass s k) refl;
        some = some_solution (rests_pass s k) refl;
        only = only_one;
        products = λ D E r l p q.
            let a = products_solve k D E r l s few out p in
            (a, λ e. yes-not (separable_passes (record { D = D; E = E; r = r; l = l; solves = a; positive = q })) e);
      }

-- a question that says yes and is asked once does not give its number
not_given : (n : ℕ) (qs : List (ℕ × Bool)) → 0 < n → once n qs ≡ true → said n qs ≡ true → first_no qs ≡ n → ⊥
not_given n qs p o e h = clash (sym (no_said n p qs o h) ∙ e)
  where
    clash : ◌≡◌ {A = Bool} false true → ⊥
    clash f = let w : ◌≡◌ {A = ℕ} 0 1 = cc in omega arith

-- of a square that has passed question 7, by the separation's answer
pub separation_eight : OfSeparations
unfolding separate_answer separation_questions questions_before every first_no
separation_eight s k few out q7 =
    eight s k out q7 few (separate_answer s k) (no_answers 8 (separation_questions s k) refl (seven q7)) (not_given 8 (separation_questions s k) (omega arith) refl)
  where
    seven : {b : Bool} → b ≡ true → first_no ((7, b) ∷ []) ≡ 0
    seven e = rw e refl

-- of a record that has passed the questions before 8, by the answer of a run in a valuation year with a result buffer of m entries
pub refusal_eight : OfRecords
unfolding run_answer questions opening_questions field_questions figure_questions development_questions separation_questions later_questions tail_questions last_questions completion_questions ratio_questions correction_questions growth_questions completed_ladder_questions questions_before every figures_of square_of
refusal_eight year s m bytes passed =
    let f = figures_of s in
    let few : f.k < 16 = years_lt s bytes in
    eight (square_of f) f.k (zero_outside f.k f.exposures f.increments few) (yes_said 7 (questions_before 8 (questions year s m)) refl passed) few (run_answer year s m)
    (no_answers 8 (questions year s m) refl passed) (not_given 8 (questions year s m) (omega arith) refl)

-- of a record that is given 8
pub given_eight : OfRefusals
unfolding run_answer
given_eight year s m bytes e =
    let passed = answer_passed 8 (questions year s m) e in
    (passed, (refusal_eight year s m bytes passed).refused e)
