-- The questions as the code asks them are questions 7 and 8 of the square. Assumes nothing.
use mathlib.Core.Path.{◌≡◌, sym, ap, ap₂, ◌∙◌}
use mathlib.Core.Bool.{Bool, true, false, ◌&&◌}
use mathlib.Core.List.{List}
use Prim.Native.Nat.{ℕ, suc, ◌+◌, ◌≤◌, ◌<◌}
use native.Mathlib.Numerals.{add-one}
use native.Mathlib.Omega.{arith}
use lib.IntN.{ℤ, pos}
use lib.ListN.{get_or}
use lib.Signed.{le_z}
use Rattle.rules.specs.Lists.{below, every}
use Rattle.rules.specs.Questions.{first_no}
use Rattle.rules.specs.Triangle.{sum_to, column_total, diagonal_total, all_total, ZeroOutside}
use Rattle.rules.specs.Separation.{billion, totals_pass, rests_pass}
use Rattle.laws.proofs.Lists.{every_same}
use Rattle.laws.proofs.Sums.{sum_to_same}
use Rattle.totals.proofs.Walk.{all_columns_to}
use Rattle.total_questions.specs.TotalQuestions.{totals_answer}

module _ (s : List (List ℤ)) (k : ℕ) where
  -- question 7, by lists of the columns and diagonals
  pub seven : k < 16 → ZeroOutside s k → (c d : List ℤ)
      → ((i : ℕ) → i ≤ k → get_or c i (pos 0) ≡ column_total s i)
      → ((i : ℕ) → i ≤ k → get_or d i (pos 0) ≡ diagonal_total s i)
      → every (λ i. le_z (pos 0) (get_or c i (pos 0))) (below (k + 1))
      && (every (λ i. le_z (pos 0) (get_or d i (pos 0))) (below (k + 1)) && le_z (sum_to (λ i. get_or c i (pos 0)) (k + 1)) (pos billion))
      ≡ totals_pass s k
  unfolding totals_pass
  seven few out c d cs ds =
      let least : (l : List ℤ) (f : ℕ → ℤ) → ((i : ℕ) → i ≤ k → get_or l i (pos 0) ≡ f i)
      → every (λ i. le_z (pos 0) (get_or l i (pos 0))) (below (k + 1)) ≡ every (λ i. le_z (pos 0) (f i)) (below (k + 1))
      = λ l f e. every_same (λ i. le_z (pos 0) (get_or l i (pos 0))) (λ i. le_z (pos 0) (f i)) (λ i. i) (λ i. i) (k + 1) (λ i m. ap (le_z (pos 0)) (e i (omega arith))) in
      let sum : sum_to (λ i. get_or c i (pos 0)) (k + 1) ≡ all_total s
      = rw (add-one k) (sum_to_same (λ i. get_or c i (pos 0)) (column_total s) (suc k) (λ i l. cs i (omega arith)) ∙ sym (all_columns_to s k few out)) in
      ap₂ (λ (a b : Bool). a && b) (least c (column_total s) cs)
      (ap₂ (λ (a b : Bool). a && b) (least d (diagonal_total s) ds) (ap (λ (z : ℤ). le_z z (pos billion)) sum))

  -- the number of questions 7 and 8: the first says no, the second does, or both say yes
  pub answer_seven : totals_pass s k ≡ false → 7 ≡ totals_answer s k
  unfolding totals_answer first_no
  answer_seven e = rw e

  pub answer_eight : totals_pass s k ≡ true → rests_pass s k ≡ false → 8 ≡ totals_answer s k
  unfolding totals_answer first_no
  answer_eight e q = rw (e, q)

  pub answer_none : totals_pass s k ≡ true → rests_pass s k ≡ true → 0 ≡ totals_answer s k
  unfolding totals_answer first_no
  answer_none e q = rw (e, q)
