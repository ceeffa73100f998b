-- How long a report is, and its last entry: the place of the best setting, which is one of those tried. Assumes nothing.
use mathlib.Core.Path.{◌≡◌, ap, ◌∙◌}
use mathlib.Core.List.{List, [], ◌∷◌, ◌++◌, map, append_assoc}
use Prim.Native.Nat.{ℕ, ◌+◌, ◌-◌, ◌*◌, ◌≤◌, ◌<◌}
use native.Mathlib.Nat.{add-zero}
use native.Mathlib.Omega.{arith}
use lib.IntN.{ℤ, pos, nat_abs}
use lib.ListN.{length, replicate, length-append, length-map}
use lib.Seq.{get_or_at}
use Rattle.rules.specs.Lists.{joined, padded}
use Rattle.rules.specs.Hindsight.{most_hindsight, gap_sum, setting_entries, best_place, hindsight_list, setting_count, hindsight_count}
use Rattle.best_setting.proofs.Smallest.{best_smallest}
use Rattle.hindsight_settings.proofs.Counts.{setting_length}
use Rattle.hindsight_places.specs.Places.{entry_at, best_at}

module _ (k : ℕ) (n : List ℕ) (p : List ℤ) (some : 1 ≤ k) where
  settings_length : (settings : List ℕ) → length (joined (map (setting_entries k n p) settings)) ≡ length settings * setting_count k
  unfolding joined
  settings_length [] = omega arith
  settings_length (e ∷ es) =
      length-append (setting_entries k n p e) (joined (map (setting_entries k n p) es)) ∙ omega (arith, setting_length k n p e some, settings_length es)

  pub list_length : (settings : List ℕ) → length (hindsight_list k n p settings) ≡ hindsight_count k (length settings)
  unfolding hindsight_list hindsight_count
  list_length settings =
      length-append (joined (map (setting_entries k n p) settings)) (pos (best_place (map (gap_sum k n p) settings)) ∷ []) ∙ omega (arith, settings_length settings)

  -- in an array
  module _ (settings : List ℕ) (tried : 1 ≤ length settings) where
    sums : List ℕ
    sums = map (gap_sum k n p) settings

    last_entry : best_at (padded most_hindsight (pos 0) (hindsight_list k n p settings)) k (length settings) ≡ best_place sums
    unfolding best_at entry_at padded hindsight_list sums
    last_entry =
        let entries = joined (map (setting_entries k n p) settings) in
        let best = pos (best_place (map (gap_sum k n p) settings)) in
        let zeros = replicate (most_hindsight - length (entries ++ (best ∷ []))) (pos 0) in
        rw (append_assoc entries (best ∷ []) zeros, add-zero (length settings * setting_count k))
        (ap nat_abs (get_or_at entries best zeros (pos 0) (length settings * setting_count k) (settings_length settings)))

    pub best_inside : best_at (padded most_hindsight (pos 0) (hindsight_list k n p settings)) k (length settings) < length settings
    unfolding sums
    best_inside =
        let many : length (map (gap_sum k n p) settings) ≡ length settings = length-map settings (gap_sum k n p) in
        rw last_entry (omega (arith, (best_smallest (map (gap_sum k n p) settings) (omega arith)).inside))
