-- Hindsight run for trial indices (request 12 of document 02): the triangle without its latest diagonals, what its separation forecasts for the next one with a
-- trial index, the gaps to what was paid, the report, and question 29. k, n and p are the record's last year, exposures and increments. Assumes nothing.
use Rattle.std.specs.Prelude.{ℕ, suc, ◌+◌, ◌-◌, ◌*◌, ◌/◌, Bool, ◌&&◌, cond, List, [], ◌∷◌, ◌++◌, map, leb, ℤ, pos, nat_abs, ◌-ℤ◌, length, get_or, replicate}
use Rattle.std.proofs.lemmas.List.Edits.{sets}
use Rattle.rules.specs.Lists.{total, up_to, joined, every, between}
use Rattle.rules.specs.Questions.{first_no, after_call}
use Rattle.rules.specs.Record.{Figures, in_range, index, last_year_of, figures_of}
use Rattle.rules.specs.Reading.{opening_questions, field_questions}
use Rattle.rules.specs.Triangle.{paid_of, averages_of, cumulatives_pass}
use Rattle.rules.specs.Separation.{diagonal_of, share_of, separate_answer}
use Rattle.rules.specs.Completion.{future_level, payment_of}

-- the most settings of a call: a setting is a one-year index, in the range of a record's
abbrev pub most_settings : ℕ
most_settings = 8

-- The step of last year h, from k − 1 down to 1: the payment years after h are dropped.

-- the increments that are kept, by row: those with i + j at most h
unfoldable pub kept_increments : ℕ → List ℤ → ℕ → List ℤ
kept_increments k p h = joined (up_to (λ i. up_to (paid_of k p i) (h + 1 - i)) (h + 1))

-- their averages, over the record's own exposures: the record's square of averages up to diagonal h, and zero past it (hindsight_list/proofs/Fits.antt, step_square)
unfoldable pub kept_averages : ℕ → List ℕ → List ℤ → ℕ → List (List ℤ)
kept_averages k n p h = averages_of h n (kept_increments k p h)

-- the step's mark: 0, or the number of the first of questions 7 to 10 that says no of what is kept
unfoldable pub step_mark : ℕ → List ℕ → List ℤ → ℕ → ℕ
step_mark k n p h = separate_answer (kept_averages k n p h) h

-- the forecast with the trial index e for origin year i, from 1 to h, in payment year h + 1, its development year h + 1 − i: the completion's payment in its first
-- future year. These are the cells of the next diagonal of which the fit has both the origin and the development year
unfoldable pub forecast : ℕ → List ℕ → List ℤ → ℕ → ℕ → ℕ → ℕ
forecast k n p h e i = payment_of (get_or n i 0) (share_of (kept_averages k n p h) h (h + 1 - i)) (future_level (diagonal_of (kept_averages k n p h) h) e)

-- the gap: actual minus forecast payment
unfoldable pub gap_of : ℕ → List ℕ → List ℤ → ℕ → ℕ → ℕ → ℤ
gap_of k n p h e i = paid_of k p i (h + 1 - i) -ℤ pos (forecast k n p h e i)

-- the gaps by row, origin years 1 to h: zeros where the step is marked
unfoldable pub step_gaps : ℕ → List ℕ → List ℤ → ℕ → ℕ → List ℤ
step_gaps k n p h e = after_call (step_mark k n p h) (up_to (λ m. gap_of k n p h e (m + 1)) h) (replicate h (pos 0))

-- The report.

-- of a step: the mark or 0, and the gaps by row
unfoldable pub step_entries : ℕ → List ℕ → List ℤ → ℕ → ℕ → List ℤ
step_entries k n p e h = pos (step_mark k n p h) ∷ step_gaps k n p h e

-- the last years of the steps, largest triangle first: k − 1 down to 1
abbrev pub step_years : ℕ → List ℕ
step_years k = up_to (λ m. k - 1 - m) (k - 1)

-- the setting's sum of absolute gaps: a marked step adds nothing
unfoldable pub gap_sum : ℕ → List ℕ → List ℤ → ℕ → ℕ
gap_sum k n p e = total (map (λ h. total (map nat_abs (step_gaps k n p h e))) (step_years k))

-- of a setting: its steps, then its sum
unfoldable pub setting_entries : ℕ → List ℕ → List ℤ → ℕ → List ℤ
setting_entries k n p e = joined (map (step_entries k n p e) (step_years k)) ++ (pos (gap_sum k n p e) ∷ [])

-- the place, from 0, of the first entry that passes a test; the length where none does
unfoldable pub first_place : {A : Type 0} → (A → Bool) → List A → ℕ
first_place ok [] = 0
first_place ok (x ∷ xs) = cond (ok x) 0 (suc (first_place ok xs))

-- the place of the smallest sum, the first on a tie; that no sum is below it, and each before it is above: best_setting/proofs/Smallest.antt
unfoldable pub best_place : List ℕ → ℕ
best_place sums = first_place (λ x. every (leb x) sums) sums

-- the report: setting by setting, and the place of the best one
unfoldable pub hindsight_list : ℕ → List ℕ → List ℤ → List ℕ → List ℤ
hindsight_list k n p settings = joined (map (setting_entries k n p) settings) ++ (pos (best_place (map (gap_sum k n p) settings)) ∷ [])

-- how many entries a setting has, the k − 1 marks, the k × (k − 1) / 2 gaps and the sum, and how many the report has; that the report has just so many, from k = 1 on:
-- hindsight_settings/proofs/Counts.antt
unfoldable pub setting_count : ℕ → ℕ
setting_count k = k + k * (k - 1) / 2

unfoldable pub hindsight_count : ℕ → ℕ → ℕ
hindsight_count k settings = settings * setting_count k + 1

-- the most entries: those of k = 15 and eight settings
abbrev pub most_hindsight : ℕ
most_hindsight = 961

-- The questions.

-- 29. Are there 1 to 8 settings, each from 1 to 5,000,000, and is k at least 2?
unfoldable pub settings_pass : ℕ → List ℕ → Bool
settings_pass k settings = between 1 most_settings (length settings) && (every (λ e. in_range index (pos e)) settings && leb 2 k)

-- 3. Does the lent report, of m entries, hold the whole report?
unfoldable pub holds_report : ℕ → ℕ → ℕ → Bool
holds_report k settings m = leb (hindsight_count k settings) m

-- the questions in their order, of the record s, the settings and a lent report of m entries: 29 directly after 2, and none after 6
unfoldable pub hindsight_questions : List ℕ → List ℕ → ℕ → List (ℕ × Bool)
hindsight_questions s settings m =
    opening_questions s
    ++ ((29, settings_pass (last_year_of s) settings)
    ∷ (3, holds_report (last_year_of s) (length settings) m)
    ∷ (field_questions s ++ ((6, cumulatives_pass (last_year_of s) (figures_of s).increments) ∷ [])))

-- the number that a call answers
unfoldable pub hindsight_answer : List ℕ → List ℕ → ℕ → ℕ
hindsight_answer s settings m = first_no (hindsight_questions s settings m)

-- the report of a record's figures
unfoldable pub hindsight_of : Figures → List ℕ → List ℤ
hindsight_of f settings = hindsight_list f.k f.exposures f.increments settings

-- the lent report after a call: the report and then what it held, and unchanged on a refusal
unfoldable pub hindsight_into : List ℕ → List ℕ → List ℤ → List ℤ
hindsight_into s settings held = after_call (hindsight_answer s settings (length held)) (sets held 0 (hindsight_of (figures_of s) settings)) held
