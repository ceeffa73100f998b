-- No entry of the report of a hindsight run is larger than the gaps of a setting can come to: a triangle of sixteen years has 105. Assumes nothing.
use Prim.Native.Nat.{ℕ, zero, suc, ◌+◌, ◌-◌, ◌*◌, ◌/◌, ◌≤◌, ◌<◌, zero-le}
use native.Mathlib.Numerals.{add-one}
use native.Mathlib.Omega.{arith}
use native.Mathlib.Decide.{ℕ_discrete}
use mathlib.Core.Path.{◌≡◌, refl, sym, ap, ◌∙◌}
use mathlib.Core.Bool.{Bool, true, false, cond}
use mathlib.Core.List.{List, [], ◌∷◌, ◌++◌, map}
use lib.Dec.{leb}
use lib.IntN.{ℤ, pos, nat_abs}
use lib.ListN.{length, get_or, length-map}
use Rattle.rules.specs.Lists.{total, up_to, padded, joined, every}
use Rattle.rules.specs.Packing.{Fit}
use Rattle.rules.specs.Record.{million, most_index, last_year_of, figures_of}
use Rattle.rules.specs.Reading.{opening_questions, field_questions}
use Rattle.rules.specs.Triangle.{averages_of, paid_of}
use Rattle.rules.specs.Completion.{payment_of}
use Rattle.rules.specs.Hindsight.{most_hindsight, step_mark, step_gaps, step_entries, step_years, gap_sum, setting_entries, first_place, best_place, hindsight_list, settings_pass, holds_report, hindsight_questions, hindsight_answer, hindsight_of}
use Rattle.laws.proofs.Lists.{map_up_to}
use Rattle.laws.proofs.Totals.{total_each, total_more}
use Rattle.laws.proofs.Padded.{same_all}
use Rattle.laws.proofs.Questions.{both_zero}
use Rattle.laws.proofs.Joined.{append_all, up_to_all, joined_all, padded_all}
use Rattle.answering.proofs.Answering.{one_said}
use Rattle.reading.proofs.FiguresRead.{sound_figures}
use Rattle.triangle.proofs.Cumulatives.{increment_most}
use Rattle.completion.proofs.PaymentsMost.{payment_most}
use Rattle.signed_sums.proofs.Sums.{difference_size}
use Rattle.hindsight_fits.specs.Fits.{fit_mark, fit_level, fit_shares}
use Rattle.hindsight_gaps.specs.Fitted.{most_gap, Given, Fitted, gap_with}
use Rattle.hindsight_gaps.proofs.Steps.{level_most, marked_gaps, marked_sum, fitted_gaps}
use Rattle.hindsight_list.proofs.Fits.{fitted}
use Rattle.hindsight_settings.specs.Steps.{most_sum}
use Rattle.hindsight_settings.proofs.Counts.{step_at, step_sum, steps_are, sum_is, each, gaps_to, gaps_most, gaps_more}
use Rattle.hindsight_questions.proofs.Passed.{Settings, settings_known}
use Rattle.hindsight_places.specs.Places.{most_gap_sum, GapsSmall}

module _ (k : ℕ) (n : List ℕ) (p : List ℤ) (known : Given k n p) (e : ℕ) (index : e ≤ most_index) where
  module _ (h : ℕ) (less : h < k) where
    abbrev fit : Fitted k n p h (fit_mark (averages_of k n p) h) (fit_level (averages_of k n p) h) (fit_shares (averages_of k n p) h)
    fit = fitted k n p known.few h (omega arith)

    abbrev mark : ℕ
    mark = fit_mark (averages_of k n p) h

    -- the gap of origin year m + 1 by the fit
    abbrev gap : ℕ → ℤ
    gap m = gap_with k n p (fit_shares (averages_of k n p) h) (fit_level (averages_of k n p) h * e / million) h (m + 1)

    gap_most : (m : ℕ) → m < h → nat_abs (gap m) ≤ most_gap
    unfolding gap_with
    gap_most m l =
        let paid = paid_of k p (m + 1) (h + 1 - (m + 1)) in
        let forecast = payment_of (get_or n (m + 1) 0) (get_or (fit_shares (averages_of k n p) h) (h + 1 - (m + 1)) 0) (fit_level (averages_of k n p) h * e / million) in
        let most = payment_most (get_or n (m + 1) 0) (get_or (fit_shares (averages_of k n p) h) (h + 1 - (m + 1)) 0) (fit_level (averages_of k n p) h * e / million)
        (known.exposures (m + 1) (omega arith)).1 (fit.share_most (h + 1 - (m + 1))) (level_most (fit_level (averages_of k n p) h) e fit.level_most index) in
        omega (arith, difference_size paid (pos forecast), increment_most k p (m + 1) known.increments (h + 1 - (m + 1)), most)

    -- the gaps, and their sum
    pub gaps_small : (j : ℕ) → nat_abs (get_or (step_gaps k n p h e) j (pos 0)) ≤ most_gap
    gaps_small = go (ℕ_discrete mark 0)
      where
        go : Dec (mark ≡ 0) → (j : ℕ) → nat_abs (get_or (step_gaps k n p h e) j (pos 0)) ≤ most_gap
        go (yes z) = rw (← fitted_gaps k n p h _ _ _ fit e z) (up_to_all (λ (x : ℤ). nat_abs x ≤ most_gap) (pos 0) zero-le gap h gap_most)
        go (no z) = rw (marked_gaps k n p h _ _ _ fit e z) (same_all (λ (x : ℤ). nat_abs x ≤ most_gap) (pos 0) (pos 0) zero-le zero-le h)

    pub step_most : total (map nat_abs (step_gaps k n p h e)) ≤ h * most_gap
    step_most = go (ℕ_discrete mark 0)
      where
        go : Dec (mark ≡ 0) → total (map nat_abs (step_gaps k n p h e)) ≤ h * most_gap
        go (yes z) = rw (← fitted_gaps k n p h _ _ _ fit e z, map_up_to nat_abs gap h) (total_each (λ m. nat_abs (gap m)) most_gap h gap_most)
        go (no z) = omega (arith, marked_sum k n p h _ _ _ fit e z)

    pub entries_small : (j : ℕ) → nat_abs (get_or (step_entries k n p e h) j (pos 0)) ≤ most_gap_sum
    unfolding step_entries
    entries_small zero = omega (arith, fit.marked, fit.mark_most)
    entries_small (suc j) = omega (arith, gaps_small j)

  -- the sums of the first c steps
  sums_most : (c : ℕ) → c ≤ k - 1 → total (up_to (step_sum k n p e) c) ≤ gaps_to k c * most_gap
  unfolding up_to total
  sums_most zero h = zero-le
  sums_most (suc c) h =
      let more : gaps_to k (suc c) ≡ gaps_to k c + (k - 1 - c) = rw (add-one c) at (gaps_more k c) in
      omega (arith, total_more (step_sum k n p e) c, sums_most c (omega arith), step_most (k - 1 - c) (omega arith), more)

  pub sum_most : gap_sum k n p e ≤ most_sum
  sum_most = rw (sum_is k n p e) (omega (arith, sums_most (k - 1) (omega arith), gaps_most k (k - 1) known.few (omega arith)))

  pub setting_small : (j : ℕ) → nat_abs (get_or (setting_entries k n p e) j (pos 0)) ≤ most_gap_sum
  unfolding setting_entries
  setting_small =
      append_all (λ (x : ℤ). nat_abs x ≤ most_gap_sum) (pos 0) zero-le (joined (map (step_entries k n p e) (step_years k))) (pos (gap_sum k n p e) ∷ [])
      (rw (steps_are k n p e) (joined_all (λ (x : ℤ). nat_abs x ≤ most_gap_sum) (pos 0) zero-le (step_at k n p e) (k - 1) (λ m j l. entries_small (k - 1 - m) (omega arith) j)))
      last
    where
      last : (j : ℕ) → nat_abs (get_or (pos (gap_sum k n p e) ∷ []) j (pos 0)) ≤ most_gap_sum
      last zero = omega (arith, sum_most)
      last (suc j) = zero-le

-- a place is at most the length
next_place : (b : Bool) (a m : ℕ) → a ≤ m → cond b 0 (suc a) ≤ suc m
next_place true a m h = zero-le
next_place false a m h = omega arith

place_most : {A : Type 0} (ok : A → Bool) (xs : List A) → first_place ok xs ≤ length xs
unfolding first_place
place_most ok [] = zero-le
place_most ok (x ∷ xs) = next_place (ok x) (first_place ok xs) (length xs) (place_most ok xs)

-- the report of figures that have passed question 4
module _ (k : ℕ) (n : List ℕ) (p : List ℤ) (known : Given k n p) (settings : List ℕ) (tried : Settings k settings) where
  best_most : best_place (map (gap_sum k n p) settings) ≤ 8
  unfolding best_place
  best_most =
      omega (arith, place_most (λ x. every (leb x) (map (gap_sum k n p) settings)) (map (gap_sum k n p) settings), length-map settings (gap_sum k n p), tried.few)

  pub report_small : (j : ℕ) → nat_abs (get_or (hindsight_list k n p settings) j (pos 0)) ≤ most_gap_sum
  unfolding hindsight_list
  report_small =
      append_all (λ (x : ℤ). nat_abs x ≤ most_gap_sum) (pos 0) zero-le (joined (map (setting_entries k n p) settings)) (pos (best_place (map (gap_sum k n p) settings)) ∷ [])
      (rw (← each (setting_entries k n p) settings)
      (joined_all (λ (x : ℤ). nat_abs x ≤ most_gap_sum) (pos 0) zero-le (λ a. setting_entries k n p (get_or settings a 0)) (length settings) (λ a j l. setting_small k n p known (get_or settings a 0) (tried.indices a) j)))
      last
    where
      last : (j : ℕ) → nat_abs (get_or (pos (best_place (map (gap_sum k n p) settings)) ∷ []) j (pos 0)) ≤ most_gap_sum
      last zero = omega (arith, best_most)
      last (suc j) = zero-le

-- and of a record and settings that are accepted, in a list of the most entries
pub list_small : (s settings : List ℕ) (m : ℕ) → Fit 8 s → hindsight_answer s settings m ≡ 0 → GapsSmall (padded most_hindsight (pos 0) (hindsight_of (figures_of s) settings))
unfolding hindsight_answer hindsight_questions hindsight_of figures_of opening_questions field_questions every
list_small s settings m bytes h =
    let first = both_zero (opening_questions s) _ refl h in
    let tried = both_zero ((29, settings_pass (last_year_of s) settings) ∷ []) _ refl first.1 in
    let room = both_zero ((3, holds_report (last_year_of s) (length settings) m) ∷ []) _ refl tried.1 in
    let fields = both_zero (field_questions s) ((6, _) ∷ []) refl room.1 in
    let sound = sound_figures s bytes first.0 fields.0 in
    padded_all (λ (x : ℤ). nat_abs x ≤ most_gap_sum) (pos 0) zero-le most_hindsight (pos 0) zero-le (hindsight_of (figures_of s) settings)
    (report_small (last_year_of s) (figures_of s).exposures (figures_of s).increments (record { few = sound.few; exposures = sound.exposures; increments = sound.increments }) settings (settings_known (last_year_of s) settings (one_said 28 (settings_pass (last_year_of s) settings) tried.0)))
