-- The questions as the code asks them are questions 9 and 10 of the square, and the answers of the separation. Assumes nothing.
use mathlib.Core.Path.{◌≡◌, refl, sym, ap, ap₂, ◌∙◌}
use mathlib.Core.Bool.{Bool}
use mathlib.Core.List.{List, [], ◌∷◌}
use Prim.Native.Nat.{ℕ, ◌+◌, ◌-◌, zero-le}
use native.Mathlib.Nat.{le_trans}
use native.Mathlib.Omega.{arith}
use borrow.Author.Tests.{leb-true, le-leb}
use lib.Dec.{leb}
use lib.IntN.{ℤ}
use lib.ListN.{length, get_or, take, replicate}
use lib.Seq.{take_at}
use Rattle.rules.specs.Lists.{up_to, padded, every, between}
use Rattle.rules.specs.Questions.{first_no, after_call}
use Rattle.rules.specs.Separation.{billion, running_of, share_of, level_of, totals_pass, rests_pass, running_pass, levels_pass, separation_questions, separate_answer, factors_of, no_factors, separated}
use Rattle.rules.specs.declared.Factors.{Factors}
use Rattle.laws.proofs.Lists.{length_up_to, every_up_to, same_answer, every_same, every_yes}
use Rattle.laws.proofs.Padded.{filled_at}
use Rattle.separation.proofs.Steps.{running_least}
use Rattle.laws.proofs.Questions.{first_answer, later_answer, after_refusal}
use Rattle.total_questions.specs.TotalQuestions.{totals_answer}

-- the answer to questions 9 and 10 of factors of the years 0 to k
abbrev pub factors_answer : ℕ → Factors → ℕ
factors_answer k f = first_no ((9, leb 1 (get_or f.shares 0 0)) ∷ (10, every (between 0 billion) (take (k + 1) f.levels)) ∷ [])

module _ (s : List (List ℤ)) (k : ℕ) where
  -- question 9, by the first share: no running share is below that of year 0
  nine : leb 1 (get_or (factors_of s k).shares 0 0) ≡ running_pass s k
  unfolding factors_of share_of running_pass
  nine =
      ap (leb 1) (filled_at 16 0 (share_of s k) (k + 1) 0 0 (omega arith))
      ∙ same_answer _ _
      (λ e. every_yes (λ h. leb 1 (running_of s k h)) (λ h. h) (k + 1) (λ i l. le-leb 1 _ (le_trans (leb-true 1 _ e) (running_least s k i (omega arith)))))
      (λ e. every_up_to (λ h. leb 1 (running_of s k h)) (λ h. h) (k + 1) 0 e (omega arith))

  -- question 10, by the levels in their array
  ten : every (between 0 billion) (take (k + 1) (factors_of s k).levels) ≡ levels_pass s k
  unfolding factors_of padded levels_pass
  ten =
      let levels = up_to (level_of s k) (k + 1) in
      ap (every (between 0 billion)) (take_at levels (replicate (16 - length levels) 0) (k + 1) (length_up_to (level_of s k) (k + 1)))
      ∙ every_same (between 0 billion) (λ h. leb (level_of s k h) billion) (level_of s k) (λ h. h) (k + 1)
      (λ i l. rw (le-leb 0 (level_of s k i) zero-le))

  -- a number of questions 7 and 8 is the separation's answer
  pub first_gives : (a : ℕ) → a ≡ totals_answer s k → (a ≡ 0 → ⊥) → a ≡ separate_answer s k
  unfolding totals_answer separate_answer separation_questions
  first_gives a e h =
      e ∙ sym (first_answer ((7, totals_pass s k) ∷ (8, rests_pass s k) ∷ []) ((9, running_pass s k) ∷ (10, levels_pass s k) ∷ []) (λ z. h (e ∙ z)))

  -- where both say yes, the factors give it
  pub factors_give : totals_answer s k ≡ 0 → (f : Factors) → f ≡ factors_of s k → factors_answer k f ≡ separate_answer s k
  unfolding totals_answer separate_answer separation_questions every
  factors_give e f is =
      ap (factors_answer k) is
      ∙ (ap₂ (λ (a b : Bool). first_no ((9, a) ∷ (10, b) ∷ [])) nine ten
      ∙ sym (later_answer ((7, totals_pass s k) ∷ (8, rests_pass s k) ∷ []) ((9, running_pass s k) ∷ (10, levels_pass s k) ∷ []) refl e))

  -- what is handed back with an answer
  pub none_back : (a : ℕ) → a ≡ separate_answer s k → (a ≡ 0 → ⊥) → no_factors k ≡ separated s k
  unfolding separated
  none_back a e h = rw (← e) (sym (after_refusal a (factors_of s k) (no_factors k) h))

  pub factors_back : (a : ℕ) → a ≡ separate_answer s k → a ≡ 0 → factors_of s k ≡ separated s k
  unfolding separated after_call
  factors_back a e z = rw (← e, z)
