-- The engine (document 01, "Questions in their order" and "The result list", with requests 1, 3 and 6 of document 02): from any valuation year, any
-- record and any result buffer to the number and the list. Assumes nothing.
use Rattle.std.specs.Prelude.{ℕ, Bool, List, [], ◌∷◌, ◌++◌, leb, ℤ, length}
use Rattle.std.proofs.lemmas.List.Edits.{sets}
use Rattle.rules.specs.Questions.{first_no, after_call}
use Rattle.rules.specs.Record.{Figures, last_year_of, figures_of}
use Rattle.rules.specs.Reading.{opening_questions, field_questions}
use Rattle.rules.specs.Triangle.{cumulatives_pass}
use Rattle.rules.specs.Separation.{separation_questions}
use Rattle.rules.specs.Tail.{tail_questions}
use Rattle.rules.specs.Completion.{ultimates_pass}
use Rattle.rules.specs.Expense.{paid_total, ulae_total, ratio_pass}
use Rattle.rules.specs.Growth.{growth_questions}
use Rattle.rules.specs.Ladder.{developed, base, factors_pass, completed_all, completed_pass}
use Rattle.rules.specs.Results.{square_of, first_tail_average_of, paid_in, provisions_in, development_in, plain_ratio_in, latest_paid_in, divisor_in, results_of, result_count}

-- whether 13 says yes, of the figures
abbrev pub development_passes : Figures → Bool
development_passes f = factors_pass f.k (developed f.k f.increments) (base f.k f.increments)

-- question 13; question 11; question 12; 15, 16 and 17; and 14, of the figures
unfoldable pub development_questions : Figures → List (ℕ × Bool)
development_questions f = (13, development_passes f) ∷ []

unfoldable pub completion_questions : Figures → List (ℕ × Bool)
completion_questions f = (11, ultimates_pass f.k (paid_in f) (provisions_in f)) ∷ []

unfoldable pub ratio_questions : Figures → List (ℕ × Bool)
ratio_questions f = (12, ratio_pass (paid_total f.k f.increments) (ulae_total f.k f.ulae)) ∷ []

unfoldable pub correction_questions : ℕ → Figures → List (ℕ × Bool)
correction_questions year f = growth_questions year (plain_ratio_in f) (latest_paid_in f) (divisor_in f)

unfoldable pub completed_ladder_questions : Figures → List (ℕ × Bool)
completed_ladder_questions f = (14, completed_pass (completed_all f.k (paid_in f) (development_in f))) ∷ []

-- those after the tail is carried on, with 15, 16 and 17 directly after 12; those after the separation, with 18 and 19 directly before 11; and all from 6 on,
-- with 13 directly after 6
unfoldable pub last_questions : ℕ → Figures → List (ℕ × Bool)
last_questions year f = completion_questions f ++ (ratio_questions f ++ (correction_questions year f ++ completed_ladder_questions f))

unfoldable pub later_questions : ℕ → Figures → List (ℕ × Bool)
later_questions year f = tail_questions f.k (first_tail_average_of f) f.indices ++ last_questions year f

unfoldable pub figure_questions : ℕ → Figures → List (ℕ × Bool)
figure_questions year f =
    (6, cumulatives_pass f.k f.increments) ∷ (development_questions f ++ (separation_questions (square_of f) f.k ++ later_questions year f))

-- 3. Does the result buffer, of m entries, hold the whole list?
unfoldable pub holds_list : List ℕ → ℕ → Bool
holds_list s m = leb (result_count (last_year_of s)) m

-- the questions in their order, of a valuation year, the record s and a result buffer of m entries
unfoldable pub questions : ℕ → List ℕ → ℕ → List (ℕ × Bool)
questions year s m = opening_questions s ++ ((3, holds_list s m) ∷ (field_questions s ++ figure_questions year (figures_of s)))

-- the number that a run answers
unfoldable pub run_answer : ℕ → List ℕ → ℕ → ℕ
run_answer year s m = first_no (questions year s m)

-- the result buffer afterwards: the list and then what it held, and unchanged on a refusal
unfoldable pub run_into : ℕ → List ℕ → List ℤ → List ℤ
run_into year s out = after_call (run_answer year s (length out)) (sets out 0 (results_of year (figures_of s))) out
