-- Of a valuation year one thing is asked, whether its ratio is corrected: two years that are alike in that get the same number and the same list from every record and
-- buffer, and an earlier year passes questions 15, 16 and 17 and uses the plain ratio. Assumes nothing.
use Prim.Native.Nat.{ℕ}
use mathlib.Core.Path.{◌≡◌}
use mathlib.Core.Bool.{false}
use mathlib.Core.List.{List}
use lib.IntN.{ℤ}
use Rattle.rules.specs.Questions.{first_no}
use Rattle.rules.specs.Record.{Figures}
use Rattle.rules.specs.Growth.{corrects, growth_questions, used_ratio}
use Rattle.rules.specs.Results.{plain_ratio_in, used_ratio_in, sections, results_of}
use Rattle.rules.specs.Engine.{correction_questions, last_questions, later_questions, figure_questions, questions, run_answer, run_into}

module _ (x y : ℕ) (alike : corrects x ≡ corrects y) where
  pub years_answer : (s : List ℕ) (m : ℕ) → run_answer x s m ≡ run_answer y s m
  unfolding run_answer questions figure_questions later_questions last_questions correction_questions growth_questions
  years_answer s m = rw alike

  pub years_list : (s : List ℕ) (out : List ℤ) → run_into x s out ≡ run_into y s out
  unfolding run_into run_answer questions figure_questions later_questions last_questions correction_questions growth_questions results_of sections used_ratio_in used_ratio
  years_list s out = rw alike

module _ (year : ℕ) (earlier : corrects year ≡ false) (f : Figures) where
  pub earlier_passes : first_no (correction_questions year f) ≡ 0
  unfolding correction_questions growth_questions first_no
  earlier_passes = rw earlier

  pub earlier_ratio : used_ratio_in year f ≡ plain_ratio_in f
  unfolding used_ratio_in used_ratio
  earlier_ratio = rw earlier
