-- What a refused record has passed, by the number of its question. Assumes nothing.
use Prim.Native.Nat.{ℕ, ◌≤◌}
use mathlib.Core.Path.{◌≡◌, refl}
use mathlib.Core.Bool.{Bool, true, false, false≢true}
use mathlib.Core.List.{List, [], ◌∷◌}
use lib.ListN.{length}
use Rattle.rules.specs.Questions.{first_no}
use Rattle.rules.specs.Record.{figures_of}
use Rattle.rules.specs.Reading.{has_last_year, has_length, in_ranges, shares_sum_of, opening_questions, field_questions}
use Rattle.rules.specs.Results.{most_entries}
use Rattle.rules.specs.Engine.{figure_questions, holds_list, questions, run_answer}
use Rattle.opening.proofs.Opened.{years_known_lem}
use Rattle.refused_page.specs.RefusedPage.{years_known, inputs_known}

-- question 1 has said yes
first_yes : (a : Bool) (qs : List (ℕ × Bool)) (n : ℕ) → first_no ((1, a) ∷ qs) ≡ n → years_known n ≡ true → a ≡ true
unfolding first_no years_known
first_yes true qs n h known = refl
first_yes false qs n h known = absurd (false≢true (rw (← h) at known))

-- questions 1, 2, 4 and 5 have
five_yes : (a b c d e : Bool) (qs : List (ℕ × Bool)) (n : ℕ) → first_no ((1, a) ∷ (2, b) ∷ (3, c) ∷ (4, d) ∷ (5, e) ∷ qs) ≡ n → inputs_known n ≡ true
    → (first_no ((1, a) ∷ (2, b) ∷ []) ≡ 0) × (first_no ((4, d) ∷ (5, e) ∷ []) ≡ 0)
unfolding first_no inputs_known years_known
five_yes true true true true true qs n h known = (refl, refl)
five_yes true true true true false qs n h known = absurd (false≢true (rw (← h) at known))
five_yes true true true false e qs n h known = absurd (false≢true (rw (← h) at known))
five_yes true true false d e qs n h known = absurd (false≢true (rw (← h) at known))
five_yes true false c d e qs n h known = absurd (false≢true (rw (← h) at known))
five_yes false b c d e qs n h known = absurd (false≢true (rw (← h) at known))

module _ (year : ℕ) (s : List ℕ) (n : ℕ) (answer : run_answer year s most_entries ≡ n) where
  pub some_known : years_known n ≡ true → 1 ≤ length s
  unfolding run_answer questions opening_questions
  some_known known = (years_known_lem s (first_yes (has_last_year s) _ n answer known)).0

  pub inputs_passed : inputs_known n ≡ true → (first_no (opening_questions s) ≡ 0) × (first_no (field_questions s) ≡ 0)
  unfolding run_answer questions opening_questions field_questions
  inputs_passed known = five_yes (has_last_year s) (has_length s) (holds_list s most_entries) (in_ranges s) (shares_sum_of s) (figure_questions year (figures_of s)) n answer known
