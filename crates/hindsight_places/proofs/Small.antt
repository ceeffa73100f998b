-- Gaps, sums and marks of a report of small entries are small. Assumes nothing.
use mathlib.Core.List.{List}
use Prim.Native.Nat.{ℕ, ◌+◌, ◌-◌, ◌*◌, ◌≤◌}
use lib.IntN.{ℤ, nat_abs}
use Rattle.rules.specs.Hindsight.{setting_count}
use Rattle.hindsight_places.specs.Places.{entry_at, step_start, step_entry, mark_at, gap_at, sum_at, most_gap_sum, GapsSmall}

module _ (list : List ℤ) (small : GapsSmall list) (k : ℕ) where
  entry_small : (a e : ℕ) → nat_abs (entry_at list k a e) ≤ most_gap_sum
  unfolding entry_at
  entry_small a e = small (a * setting_count k + e)

  step_small : (a h e : ℕ) → nat_abs (step_entry list k a h e) ≤ most_gap_sum
  unfolding step_entry
  step_small a h e = entry_small a (step_start k h + e)

  pub mark_small : (h : ℕ) → mark_at list k h ≤ most_gap_sum
  unfolding mark_at
  mark_small h = step_small 0 h 0

  pub gap_small : (a h i : ℕ) → nat_abs (gap_at list k a h i) ≤ most_gap_sum
  unfolding gap_at
  gap_small a h i = step_small a h i

  pub sum_small : (a : ℕ) → sum_at list k a ≤ most_gap_sum
  unfolding sum_at
  sum_small a = entry_small a (setting_count k - 1)
