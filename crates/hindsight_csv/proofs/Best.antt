-- The place of the best setting in a report of small entries is small. Assumes nothing.
use mathlib.Core.List.{List}
use Prim.Native.Nat.{ℕ, ◌+◌, ◌*◌, ◌≤◌}
use lib.IntN.{ℤ}
use Rattle.rules.specs.Hindsight.{setting_count}
use Rattle.hindsight_places.specs.Places.{entry_at, best_at, most_gap_sum, GapsSmall}

pub best_small : (list : List ℤ) → GapsSmall list → (k n : ℕ) → best_at list k n ≤ most_gap_sum
unfolding best_at entry_at
best_small list small k n = small (n * setting_count k + 0)
