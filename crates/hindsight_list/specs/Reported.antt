-- What the report of a hindsight run is made of, once every question has said yes. Assumes nothing.
use Rattle.std.specs.Prelude.{ℕ, ◌≤◌, ◌≡◌, List, ℤ, length, get_or}
use Rattle.rules.specs.Record.{most_index}
use Rattle.rules.specs.Triangle.{averages_of}
use Rattle.rules.specs.Hindsight.{most_settings, hindsight_count}
use Rattle.totals.specs.Summed.{Summed}
use Rattle.hindsight_gaps.specs.Fitted.{Given}

-- figures, their averages s with the totals v of their columns and d of their diagonals, the settings, and a lent report of m entries
pub record Reported (k : ℕ) (n : List ℕ) (p : List ℤ) (s : List (List ℤ)) (v d : List ℤ) (settings : List ℕ) (m : ℕ) : Type 0 where
  pub given : Given k n p
  pub some : 1 ≤ k
  pub averages : s ≡ averages_of k n p
  pub totals : Summed (averages_of k n p) k v d
  pub tried : 1 ≤ length settings
  pub few : length settings ≤ most_settings
  pub indices : (i : ℕ) → get_or settings i 0 ≤ most_index
  pub room : hindsight_count k (length settings) ≤ m
