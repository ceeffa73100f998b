-- Settings have equally many entries (settings_to), and steps one less than the one before (steps_to_lem), so an entry stands where it is read (joined_at). Assumes nothing.
use mathlib.Core.Path.{◌≡◌, sym, ap, ◌∙◌}
use mathlib.Core.List.{List, ◌∷◌, [], ◌++◌, map}
use Prim.Native.Nat.{ℕ, zero, suc, ◌+◌, ◌-◌, ◌*◌, ◌≤◌, ◌<◌}
use native.Mathlib.Nat.{mul-le-mul_right}
use native.Mathlib.Omega.{arith}
use lib.IntN.{ℤ, pos, nat_abs}
use lib.ListN.{length, get_or, length-append, get_or-append}
use lib.Seq.{get_or-take, get_or-append-add}
use Rattle.rules.specs.Lists.{total, up_to, joined}
use Rattle.rules.specs.Hindsight.{step_entries, gap_sum, setting_entries, best_place, hindsight_list, setting_count, hindsight_count}
use Rattle.laws.proofs.Totals.{total_none, total_more}
use Rattle.laws.proofs.Joined.{joined_more, joined_at, row_inside}
use Rattle.hindsight_gaps.proofs.Steps.{step_length}
use Rattle.hindsight_settings.proofs.Counts.{step_at, steps_are, steps_count, setting_length, each, settings_to, settings_length}
use Rattle.hindsight_places.specs.Places.{entry_at, step_start, step_entry, sum_at, best_at}
use Rattle.hindsight_places.proofs.Inside.{count_least, step_inside}
use Rattle.hindsight_shown.specs.Shown.{Begins, EntriesShown, SumsShown, BestShown}

-- a setting's entries
module _ (k : ℕ) (n : List ℕ) (p : List ℤ) (e : ℕ) where
  -- the first c steps
  steps_to_lem : (c : ℕ) → c ≤ k → length (joined (up_to (step_at k n p e) c)) ≡ total (up_to (λ m. k - m) c)
  unfolding up_to joined
  steps_to_lem zero h = sym (total_none (λ m. k - m))
  steps_to_lem (suc c) h =
      let f = step_at k n p e in
      rw (joined_more f c)
      (omega
      (arith, length-append (joined (up_to f c)) (f c), step_length k n p e (k - 1 - c), steps_to_lem c (omega arith), total_more (λ m. k - m) c))

  -- entry i of step h
  step_at_lem : (h i : ℕ) → (1 ≤ h) × (h < k) → i ≤ h → get_or (setting_entries k n p e) (step_start k h + i) (pos 0) ≡ get_or (step_entries k n p e h) i (pos 0)
  unfolding setting_entries step_start
  step_at_lem h i (least, below) l =
      let f = step_at k n p e in
      let m = k - 1 - h in
      let same : k - 1 - m ≡ h = omega arith in
      let size : length (f m) ≡ h + 1 = omega (arith, step_length k n p e (k - 1 - m)) in
      let start : length (joined (up_to f m)) ≡ total (up_to (λ j. k - j) m) = steps_to_lem m (omega arith) in
      let room = row_inside f (k - 1) m (omega arith) in
      let xs = joined (up_to f (k - 1)) in
      let place : total (up_to (λ j. k - j) m) + i < length xs = omega (arith, room, start, size) in
      ap (λ (ys : List ℤ). get_or (ys ++ (pos (gap_sum k n p e) ∷ [])) (total (up_to (λ j. k - j) m) + i) (pos 0)) (steps_are k n p e)
      ∙ get_or-append xs (pos (gap_sum k n p e) ∷ []) (pos 0) (total (up_to (λ j. k - j) m) + i) place
      ∙ ap (λ (z : ℕ). get_or xs (z + i) (pos 0)) (sym start)
      ∙ joined_at f (k - 1) m i (pos 0) (omega arith) (omega (arith, size))
      ∙ ap (λ (z : ℕ). get_or (step_entries k n p e z) i (pos 0)) same

  -- the sum
  sum_at_lem : 1 ≤ k → get_or (setting_entries k n p e) (setting_count k - 1) (pos 0) ≡ pos (gap_sum k n p e)
  unfolding setting_entries
  sum_at_lem h =
      let f = step_at k n p e in
      let xs = joined (up_to f (k - 1)) in
      let last : setting_count k - 1 ≡ length xs + 0 = omega (arith, steps_count k n p e h) in
      ap (λ (ys : List ℤ). get_or (ys ++ (pos (gap_sum k n p e) ∷ [])) (setting_count k - 1) (pos 0)) (steps_are k n p e)
      ∙ ap (λ (z : ℕ). get_or (xs ++ (pos (gap_sum k n p e) ∷ [])) z (pos 0)) last
      ∙ get_or-append-add xs (pos (gap_sum k n p e) ∷ []) 0 (pos 0)

-- the report
module _ (k : ℕ) (n : List ℕ) (p : List ℤ) (settings : List ℕ) (list : List ℤ) (begins : Begins k n p settings list) where
  -- any of its entries
  report_at : (z : ℕ) → z < hindsight_count k (length settings) → get_or list z (pos 0) ≡ get_or (hindsight_list k n p settings) z (pos 0)
  report_at z h = sym (get_or-take (hindsight_count k (length settings)) list z (pos 0) h) ∙ ap (λ (xs : List ℤ). get_or xs z (pos 0)) begins.report

  -- entry i of setting a
  setting_at : (a i : ℕ) → a < length settings → i < setting_count k → entry_at list k a i ≡ get_or (setting_entries k n p (get_or settings a 0)) i (pos 0)
  unfolding entry_at hindsight_list hindsight_count
  setting_at a i h l =
      let f : ℕ → List ℤ = λ b. setting_entries k n p (get_or settings b 0) in
      let s = length settings in
      let c = setting_count k in
      let xs = joined (up_to f s) in
      let one : 1 ≤ k = omega (arith, begins.known.0) in
      let inside : (a + 1) * c ≤ s * c = mul-le-mul_right c (omega arith) in
      let whole : length xs ≡ s * c = settings_to k n p settings one s in
      let start : length (joined (up_to f a)) ≡ a * c = settings_to k n p settings one a in
      let tail = pos (best_place (map (gap_sum k n p) settings)) ∷ [] in
      report_at (a * c + i) (omega (arith, inside))
      ∙ ap (λ (ys : List (List ℤ)). get_or (joined ys ++ tail) (a * c + i) (pos 0)) (sym (each (setting_entries k n p) settings))
      ∙ get_or-append xs tail (pos 0) (a * c + i) (omega (arith, inside, whole))
      ∙ ap (λ (z : ℕ). get_or xs (z + i) (pos 0)) (sym start)
      ∙ joined_at f s a i (pos 0) h (omega (arith, setting_length k n p (get_or settings a 0) one))

  pub entries_shown : EntriesShown k n p settings list
  unfolding step_entry
  entries_shown a h e few step l =
      setting_at a (step_start k h + e) few (step_inside k h e (begins.known, step) l) ∙ step_at_lem k n p (get_or settings a 0) h e step l

  pub sums_shown : SumsShown k n p settings list
  unfolding sum_at
  sums_shown a few =
      let one : 1 ≤ k = omega (arith, begins.known.0) in
      ap nat_abs (setting_at a (setting_count k - 1) few (omega (arith, count_least k begins.known)) ∙ sum_at_lem k n p (get_or settings a 0) one)

  pub best_shown : BestShown k n p settings list
  unfolding best_at entry_at hindsight_list hindsight_count
  best_shown =
      let s = length settings in
      let c = setting_count k in
      let xs = joined (map (setting_entries k n p) settings) in
      let tail = pos (best_place (map (gap_sum k n p) settings)) ∷ [] in
      let last : s * c + 0 ≡ length xs + 0 = omega (arith, settings_length k n p settings (omega (arith, begins.known.0))) in
      ap nat_abs
      (report_at (s * c + 0) (omega arith) ∙ ap (λ (z : ℕ). get_or (xs ++ tail) z (pos 0)) last ∙ get_or-append-add xs tail 0 (pos 0))
