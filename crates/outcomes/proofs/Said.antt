-- What each question but 3 says where the run in a valuation year answers a number: the one of that number no, and those before it yes. Assumes nothing.
use Prim.Native.Nat.{ℕ}
use native.Mathlib.Omega.{arith}
use mathlib.Core.Path.{◌≡◌, refl}
use mathlib.Core.Bool.{Bool, true, false, cond}
use mathlib.Core.List.{List, [], ◌∷◌}
use Rattle.rules.specs.Lists.{every}
use Rattle.rules.specs.Record.{figures_of}
use Rattle.rules.specs.Reading.{has_last_year, has_length, in_ranges, shares_sum_of, opening_questions, field_questions}
use Rattle.rules.specs.Triangle.{cumulatives_pass}
use Rattle.rules.specs.Separation.{totals_pass, rests_pass, running_pass, levels_pass, separation_questions}
use Rattle.rules.specs.Tail.{first_tail_average_passes, tail_averages_pass, tail_questions}
use Rattle.rules.specs.Completion.{ultimates_pass}
use Rattle.rules.specs.Expense.{paid_total, ulae_total, ratio_pass}
use Rattle.rules.specs.Growth.{corrects, latest_paid_passes, divisor_passes, corrected_ratio, corrected_ratio_passes, growth_questions}
use Rattle.rules.specs.Ladder.{completed_all, completed_pass}
use Rattle.rules.specs.Results.{square_of, first_tail_average_of, paid_in, provisions_in, development_in, plain_ratio_in, latest_paid_in, divisor_in, most_entries}
use Rattle.rules.specs.Engine.{development_passes, development_questions, completion_questions, ratio_questions, correction_questions, completed_ladder_questions, last_questions, later_questions, figure_questions, questions, run_answer}
use Rattle.laws.proofs.Questions.{precedes, no_said, yes_before}

-- the questions' numbers in their order; the answers here are of no account
abbrev pub order : List (ℕ × Bool)
order =
    (1, true) ∷ (2, true) ∷ (3, true) ∷ (4, true) ∷ (5, true) ∷ (6, true) ∷ (13, true) ∷ (7, true) ∷ (8, true) ∷ (9, true) ∷ (10, true) ∷ (18, true) ∷ (19, true) ∷ (11, true) ∷ (12, true) ∷ (15, true) ∷ (16, true) ∷ (17, true) ∷ (14, true) ∷ []

module _ (year : ℕ) (s : List ℕ) where
  -- question 1
  pub first_byte_no : run_answer year s most_entries ≡ 1 → has_last_year s ≡ false
  unfolding run_answer questions opening_questions field_questions figure_questions development_questions separation_questions later_questions tail_questions last_questions completion_questions ratio_questions correction_questions growth_questions completed_ladder_questions every
  first_byte_no h = no_said 1 (omega arith) (questions year s most_entries) refl h

  pub first_byte_yes : (n : ℕ) → precedes 1 n order ≡ true → run_answer year s most_entries ≡ n → has_last_year s ≡ true
  unfolding run_answer questions opening_questions field_questions figure_questions development_questions separation_questions later_questions tail_questions last_questions completion_questions ratio_questions correction_questions growth_questions completed_ladder_questions
  first_byte_yes n o h = yes_before 1 n (questions year s most_entries) o h

  -- question 2
  pub length_no : run_answer year s most_entries ≡ 2 → has_length s ≡ false
  unfolding run_answer questions opening_questions field_questions figure_questions development_questions separation_questions later_questions tail_questions last_questions completion_questions ratio_questions correction_questions growth_questions completed_ladder_questions every
  length_no h = no_said 2 (omega arith) (questions year s most_entries) refl h

  pub length_yes : (n : ℕ) → precedes 2 n order ≡ true → run_answer year s most_entries ≡ n → has_length s ≡ true
  unfolding run_answer questions opening_questions field_questions figure_questions development_questions separation_questions later_questions tail_questions last_questions completion_questions ratio_questions correction_questions growth_questions completed_ladder_questions
  length_yes n o h = yes_before 2 n (questions year s most_entries) o h

  -- question 4
  pub ranges_no : run_answer year s most_entries ≡ 4 → in_ranges s ≡ false
  unfolding run_answer questions opening_questions field_questions figure_questions development_questions separation_questions later_questions tail_questions last_questions completion_questions ratio_questions correction_questions growth_questions completed_ladder_questions every
  ranges_no h = no_said 4 (omega arith) (questions year s most_entries) refl h

  pub ranges_yes : (n : ℕ) → precedes 4 n order ≡ true → run_answer year s most_entries ≡ n → in_ranges s ≡ true
  unfolding run_answer questions opening_questions field_questions figure_questions development_questions separation_questions later_questions tail_questions last_questions completion_questions ratio_questions correction_questions growth_questions completed_ladder_questions
  ranges_yes n o h = yes_before 4 n (questions year s most_entries) o h

  -- question 5
  pub shares_no : run_answer year s most_entries ≡ 5 → shares_sum_of s ≡ false
  unfolding run_answer questions opening_questions field_questions figure_questions development_questions separation_questions later_questions tail_questions last_questions completion_questions ratio_questions correction_questions growth_questions completed_ladder_questions every
  shares_no h = no_said 5 (omega arith) (questions year s most_entries) refl h

  pub shares_yes : (n : ℕ) → precedes 5 n order ≡ true → run_answer year s most_entries ≡ n → shares_sum_of s ≡ true
  unfolding run_answer questions opening_questions field_questions figure_questions development_questions separation_questions later_questions tail_questions last_questions completion_questions ratio_questions correction_questions growth_questions completed_ladder_questions
  shares_yes n o h = yes_before 5 n (questions year s most_entries) o h

  -- question 6
  pub cumulatives_no : run_answer year s most_entries ≡ 6 → cumulatives_pass (figures_of s).k (figures_of s).increments ≡ false
  unfolding run_answer questions opening_questions field_questions figure_questions development_questions separation_questions later_questions tail_questions last_questions completion_questions ratio_questions correction_questions growth_questions completed_ladder_questions every
  cumulatives_no h = no_said 6 (omega arith) (questions year s most_entries) refl h

  pub cumulatives_yes : (n : ℕ) → precedes 6 n order ≡ true → run_answer year s most_entries ≡ n → cumulatives_pass (figures_of s).k (figures_of s).increments ≡ true
  unfolding run_answer questions opening_questions field_questions figure_questions development_questions separation_questions later_questions tail_questions last_questions completion_questions ratio_questions correction_questions growth_questions completed_ladder_questions
  cumulatives_yes n o h = yes_before 6 n (questions year s most_entries) o h

  -- question 13
  pub development_no : run_answer year s most_entries ≡ 13 → development_passes (figures_of s) ≡ false
  unfolding run_answer questions opening_questions field_questions figure_questions development_questions separation_questions later_questions tail_questions last_questions completion_questions ratio_questions correction_questions growth_questions completed_ladder_questions every
  development_no h = no_said 13 (omega arith) (questions year s most_entries) refl h

  pub development_yes : (n : ℕ) → precedes 13 n order ≡ true → run_answer year s most_entries ≡ n → development_passes (figures_of s) ≡ true
  unfolding run_answer questions opening_questions field_questions figure_questions development_questions separation_questions later_questions tail_questions last_questions completion_questions ratio_questions correction_questions growth_questions completed_ladder_questions
  development_yes n o h = yes_before 13 n (questions year s most_entries) o h

  -- question 7
  pub totals_no : run_answer year s most_entries ≡ 7 → totals_pass (square_of (figures_of s)) (figures_of s).k ≡ false
  unfolding run_answer questions opening_questions field_questions figure_questions development_questions separation_questions later_questions tail_questions last_questions completion_questions ratio_questions correction_questions growth_questions completed_ladder_questions every
  totals_no h = no_said 7 (omega arith) (questions year s most_entries) refl h

  pub totals_yes : (n : ℕ) → precedes 7 n order ≡ true → run_answer year s most_entries ≡ n → totals_pass (square_of (figures_of s)) (figures_of s).k ≡ true
  unfolding run_answer questions opening_questions field_questions figure_questions development_questions separation_questions later_questions tail_questions last_questions completion_questions ratio_questions correction_questions growth_questions completed_ladder_questions
  totals_yes n o h = yes_before 7 n (questions year s most_entries) o h

  -- question 8
  pub rests_no : run_answer year s most_entries ≡ 8 → rests_pass (square_of (figures_of s)) (figures_of s).k ≡ false
  unfolding run_answer questions opening_questions field_questions figure_questions development_questions separation_questions later_questions tail_questions last_questions completion_questions ratio_questions correction_questions growth_questions completed_ladder_questions every
  rests_no h = no_said 8 (omega arith) (questions year s most_entries) refl h

  pub rests_yes : (n : ℕ) → precedes 8 n order ≡ true → run_answer year s most_entries ≡ n → rests_pass (square_of (figures_of s)) (figures_of s).k ≡ true
  unfolding run_answer questions opening_questions field_questions figure_questions development_questions separation_questions later_questions tail_questions last_questions completion_questions ratio_questions correction_questions growth_questions completed_ladder_questions
  rests_yes n o h = yes_before 8 n (questions year s most_entries) o h

  -- question 9
  pub running_no : run_answer year s most_entries ≡ 9 → running_pass (square_of (figures_of s)) (figures_of s).k ≡ false
  unfolding run_answer questions opening_questions field_questions figure_questions development_questions separation_questions later_questions tail_questions last_questions completion_questions ratio_questions correction_questions growth_questions completed_ladder_questions every
  running_no h = no_said 9 (omega arith) (questions year s most_entries) refl h

  pub running_yes : (n : ℕ) → precedes 9 n order ≡ true → run_answer year s most_entries ≡ n → running_pass (square_of (figures_of s)) (figures_of s).k ≡ true
  unfolding run_answer questions opening_questions field_questions figure_questions development_questions separation_questions later_questions tail_questions last_questions completion_questions ratio_questions correction_questions growth_questions completed_ladder_questions
  running_yes n o h = yes_before 9 n (questions year s most_entries) o h

  -- question 10
  pub levels_no : run_answer year s most_entries ≡ 10 → levels_pass (square_of (figures_of s)) (figures_of s).k ≡ false
  unfolding run_answer questions opening_questions field_questions figure_questions development_questions separation_questions later_questions tail_questions last_questions completion_questions ratio_questions correction_questions growth_questions completed_ladder_questions every
  levels_no h = no_said 10 (omega arith) (questions year s most_entries) refl h

  pub levels_yes : (n : ℕ) → precedes 10 n order ≡ true → run_answer year s most_entries ≡ n → levels_pass (square_of (figures_of s)) (figures_of s).k ≡ true
  unfolding run_answer questions opening_questions field_questions figure_questions development_questions separation_questions later_questions tail_questions last_questions completion_questions ratio_questions correction_questions growth_questions completed_ladder_questions
  levels_yes n o h = yes_before 10 n (questions year s most_entries) o h

  -- question 18
  pub tail_no : run_answer year s most_entries ≡ 18 → first_tail_average_passes (first_tail_average_of (figures_of s)) ≡ false
  unfolding run_answer questions opening_questions field_questions figure_questions development_questions separation_questions later_questions tail_questions last_questions completion_questions ratio_questions correction_questions growth_questions completed_ladder_questions every
  tail_no h = no_said 18 (omega arith) (questions year s most_entries) refl h

  pub tail_yes : (n : ℕ) → precedes 18 n order ≡ true → run_answer year s most_entries ≡ n → first_tail_average_passes (first_tail_average_of (figures_of s)) ≡ true
  unfolding run_answer questions opening_questions field_questions figure_questions development_questions separation_questions later_questions tail_questions last_questions completion_questions ratio_questions correction_questions growth_questions completed_ladder_questions
  tail_yes n o h = yes_before 18 n (questions year s most_entries) o h

  -- question 19
  pub tails_no : run_answer year s most_entries ≡ 19 → tail_averages_pass (figures_of s).k (first_tail_average_of (figures_of s)) (figures_of s).indices ≡ false
  unfolding run_answer questions opening_questions field_questions figure_questions development_questions separation_questions later_questions tail_questions last_questions completion_questions ratio_questions correction_questions growth_questions completed_ladder_questions every
  tails_no h = no_said 19 (omega arith) (questions year s most_entries) refl h

  pub tails_yes : (n : ℕ) → precedes 19 n order ≡ true → run_answer year s most_entries ≡ n → tail_averages_pass (figures_of s).k (first_tail_average_of (figures_of s)) (figures_of s).indices ≡ true
  unfolding run_answer questions opening_questions field_questions figure_questions development_questions separation_questions later_questions tail_questions last_questions completion_questions ratio_questions correction_questions growth_questions completed_ladder_questions
  tails_yes n o h = yes_before 19 n (questions year s most_entries) o h

  -- question 11
  pub ultimates_no : run_answer year s most_entries ≡ 11 → ultimates_pass (figures_of s).k (paid_in (figures_of s)) (provisions_in (figures_of s)) ≡ false
  unfolding run_answer questions opening_questions field_questions figure_questions development_questions separation_questions later_questions tail_questions last_questions completion_questions ratio_questions correction_questions growth_questions completed_ladder_questions every
  ultimates_no h = no_said 11 (omega arith) (questions year s most_entries) refl h

  pub ultimates_yes : (n : ℕ) → precedes 11 n order ≡ true → run_answer year s most_entries ≡ n → ultimates_pass (figures_of s).k (paid_in (figures_of s)) (provisions_in (figures_of s)) ≡ true
  unfolding run_answer questions opening_questions field_questions figure_questions development_questions separation_questions later_questions tail_questions last_questions completion_questions ratio_questions correction_questions growth_questions completed_ladder_questions
  ultimates_yes n o h = yes_before 11 n (questions year s most_entries) o h

  -- question 12
  pub ratio_no : run_answer year s most_entries ≡ 12 → ratio_pass (paid_total (figures_of s).k (figures_of s).increments) (ulae_total (figures_of s).k (figures_of s).ulae) ≡ false
  unfolding run_answer questions opening_questions field_questions figure_questions development_questions separation_questions later_questions tail_questions last_questions completion_questions ratio_questions correction_questions growth_questions completed_ladder_questions every
  ratio_no h = no_said 12 (omega arith) (questions year s most_entries) refl h

  pub ratio_yes : (n : ℕ) → precedes 12 n order ≡ true → run_answer year s most_entries ≡ n → ratio_pass (paid_total (figures_of s).k (figures_of s).increments) (ulae_total (figures_of s).k (figures_of s).ulae) ≡ true
  unfolding run_answer questions opening_questions field_questions figure_questions development_questions separation_questions later_questions tail_questions last_questions completion_questions ratio_questions correction_questions growth_questions completed_ladder_questions
  ratio_yes n o h = yes_before 12 n (questions year s most_entries) o h

  -- question 15
  pub latest_no : run_answer year s most_entries ≡ 15 → cond (corrects year) (latest_paid_passes (latest_paid_in (figures_of s))) true ≡ false
  unfolding run_answer questions opening_questions field_questions figure_questions development_questions separation_questions later_questions tail_questions last_questions completion_questions ratio_questions correction_questions growth_questions completed_ladder_questions every
  latest_no h = no_said 15 (omega arith) (questions year s most_entries) refl h

  pub latest_yes : (n : ℕ) → precedes 15 n order ≡ true → run_answer year s most_entries ≡ n → cond (corrects year) (latest_paid_passes (latest_paid_in (figures_of s))) true ≡ true
  unfolding run_answer questions opening_questions field_questions figure_questions development_questions separation_questions later_questions tail_questions last_questions completion_questions ratio_questions correction_questions growth_questions completed_ladder_questions
  latest_yes n o h = yes_before 15 n (questions year s most_entries) o h

  -- question 16
  pub divisor_no : run_answer year s most_entries ≡ 16 → cond (corrects year) (divisor_passes (divisor_in (figures_of s))) true ≡ false
  unfolding run_answer questions opening_questions field_questions figure_questions development_questions separation_questions later_questions tail_questions last_questions completion_questions ratio_questions correction_questions growth_questions completed_ladder_questions every
  divisor_no h = no_said 16 (omega arith) (questions year s most_entries) refl h

  pub divisor_yes : (n : ℕ) → precedes 16 n order ≡ true → run_answer year s most_entries ≡ n → cond (corrects year) (divisor_passes (divisor_in (figures_of s))) true ≡ true
  unfolding run_answer questions opening_questions field_questions figure_questions development_questions separation_questions later_questions tail_questions last_questions completion_questions ratio_questions correction_questions growth_questions completed_ladder_questions
  divisor_yes n o h = yes_before 16 n (questions year s most_entries) o h

  -- question 17
  pub corrected_no : run_answer year s most_entries ≡ 17 → cond (corrects year) (corrected_ratio_passes (corrected_ratio (plain_ratio_in (figures_of s)) (divisor_in (figures_of s)))) true ≡ false
  unfolding run_answer questions opening_questions field_questions figure_questions development_questions separation_questions later_questions tail_questions last_questions completion_questions ratio_questions correction_questions growth_questions completed_ladder_questions every
  corrected_no h = no_said 17 (omega arith) (questions year s most_entries) refl h

  pub corrected_yes : (n : ℕ) → precedes 17 n order ≡ true → run_answer year s most_entries ≡ n → cond (corrects year) (corrected_ratio_passes (corrected_ratio (plain_ratio_in (figures_of s)) (divisor_in (figures_of s)))) true ≡ true
  unfolding run_answer questions opening_questions field_questions figure_questions development_questions separation_questions later_questions tail_questions last_questions completion_questions ratio_questions correction_questions growth_questions completed_ladder_questions
  corrected_yes n o h = yes_before 17 n (questions year s most_entries) o h

  -- question 14
  pub completed_no : run_answer year s most_entries ≡ 14 → completed_pass (completed_all (figures_of s).k (paid_in (figures_of s)) (development_in (figures_of s))) ≡ false
  unfolding run_answer questions opening_questions field_questions figure_questions development_questions separation_questions later_questions tail_questions last_questions completion_questions ratio_questions correction_questions growth_questions completed_ladder_questions every
  completed_no h = no_said 14 (omega arith) (questions year s most_entries) refl h

  pub completed_yes : (n : ℕ) → precedes 14 n order ≡ true → run_answer year s most_entries ≡ n → completed_pass (completed_all (figures_of s).k (paid_in (figures_of s)) (development_in (figures_of s))) ≡ true
  unfolding run_answer questions opening_questions field_questions figure_questions development_questions separation_questions later_questions tail_questions last_questions completion_questions ratio_questions correction_questions growth_questions completed_ladder_questions
  completed_yes n o h = yes_before 14 n (questions year s most_entries) o h
