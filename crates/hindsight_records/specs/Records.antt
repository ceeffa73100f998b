-- What is claimed of the steps of a hindsight run; k, n and p are the record's last year, exposures and increments. Assumes nothing.
use Rattle.std.specs.Prelude.{ℕ, ◌+◌, ◌-◌, ◌*◌, ◌≤◌, ◌<◌, ◌≡◌, true, List, map, ℤ, pos, ◌*ℤ◌, length, get_or, take, replicate}
use Rattle.rules.specs.Record.{most_index, field_count, last_year_of, fields_of, figures_of, exposures_in, increments_in}
use Rattle.rules.specs.Reading.{read_answer_of}
use Rattle.rules.specs.Triangle.{cumulatives_pass, column_total, diagonal_total}
use Rattle.rules.specs.Separation.{diagonal_of, share_of, level_of, separate_answer}
use Rattle.rules.specs.Exact.{Solves, NearExact}
use Rattle.rules.specs.Completion.{payment}
use Rattle.rules.specs.Results.{square_of, factors_in, levels_in}
use Rattle.rules.specs.Demand.{Within, payment_over}
use Rattle.rules.specs.Hindsight.{kept_increments, kept_averages, step_mark, forecast, gap_sum, best_place, hindsight_answer}

module _ (k : ℕ) (n : List ℕ) (p : List ℤ) (h : ℕ) where
  -- the triangle of the record s, its k, exposures and increments, is the one that is kept at the step of last year h
  pub record KeptIn (s : List ℕ) : Type 0 where
    pub last : last_year_of s ≡ h
    pub exposures : exposures_in h (fields_of s) ≡ take (h + 1) n
    pub increments : increments_in h (fields_of s) ≡ kept_increments k p h

  -- the step's mark is what questions 7 to 10 alone answer of such a record
  abbrev pub AsMarked : Type 0
  AsMarked = (s : List ℕ) → KeptIn s → step_mark k n p h ≡ separate_answer (square_of (figures_of s)) (last_year_of s)

  -- its forecasts are the payments in the first future year of such a record whose first index is the setting
  abbrev pub AsCompleted : Type 0
  AsCompleted =
      (s : List ℕ) → KeptIn s → h < 16 → (e i : ℕ) → get_or (figures_of s).indices 0 0 ≡ e → 1 ≤ i → i ≤ h
      → forecast k n p h e i ≡ payment (last_year_of s) (figures_of s).exposures (factors_in (figures_of s)).shares (levels_in (figures_of s)) i (h + 1 - i)

  -- the square of averages that is kept
  abbrev pub square : List (List ℤ)
  square = kept_averages k n p h

  -- of a step that is not marked, its fit meets the third demand of shares and levels
  abbrev pub FitNear : Type 0
  FitNear = h < 16 → step_mark k n p h ≡ 0 → NearExact h (column_total square) (diagonal_total square) (share_of square h) (level_of square h)

  -- and against every exact solution, carried on unrounded, each forecast is within the allowance of a payment, n_i × (5 × i + 2) / 100 + 1: its share is that of
  -- development year h + 1 − i
  abbrev pub ForecastNear : Type 0
  ForecastNear =
      h < 16 → step_mark k n p h ≡ 0 → (D E : ℕ) (x y : ℕ → ℤ) → Solves h D E (column_total square) (diagonal_total square) x y → (e i : ℕ) → 1 ≤ e → e ≤ most_index → 1 ≤ i → i ≤ h
      → Within (forecast k n p h e i) (pos (get_or n i 0 * (diagonal_of square h * e)) *ℤ x (h + 1 - i)) (payment_over D) (get_or n i 0 * (5 * i + 2) + 100)

-- of every step of a call that is accepted, and every setting e, there is such a record: its first index is e, and it passes the reader's questions, 1, 2, 4 and 5, and 6. The
-- mark is what questions 7 to 10 alone say of it; the engine asks it 13 before them
abbrev pub HasRecord : List ℕ → List ℕ → ℕ → ℕ → ℕ → Type 0
HasRecord s settings m h e =
    hindsight_answer s settings m ≡ 0 → 1 ≤ h → h < last_year_of s → 1 ≤ e → e ≤ most_index
    → (t : List ℕ) × (KeptIn (last_year_of s) (figures_of s).exposures (figures_of s).increments h t
    × ((get_or (figures_of t).indices 0 0 ≡ e) × ((read_answer_of t (field_count (last_year_of t)) ≡ 0) × (cumulatives_pass (last_year_of t) (figures_of t).increments ≡ true))))

-- where every step is marked, every sum is 0, and the first setting is the best
abbrev pub AllMarked : ℕ → List ℕ → List ℤ → List ℕ → Type 0
AllMarked k n p settings =
    ((h : ℕ) → 1 ≤ h → h < k → step_mark k n p h ≡ 0 → ⊥) → (map (gap_sum k n p) settings ≡ replicate (length settings) 0) × (best_place (map (gap_sum k n p) settings) ≡ 0)
