-- What the ULAE reserve asks of its numbers. Assumes nothing.
use Rattle.std.specs.Prelude.{ℕ, ◌+◌, ◌≤◌, ◌<◌, ◌≡◌, List, take}
use Rattle.rules.specs.Lists.{total}
use Rattle.rules.specs.Record.{million}
use Rattle.rules.specs.Completion.{most_ultimate, ultimate}

-- paid cumulatives c, provisions q and reporting shares b of the years 0 to k, the weight w and the ratio p, within their limits
pub record Reservable (k : ℕ) (c q b : List ℕ) (w p : ℕ) : Type 0 where
  pub few : k < 16
  pub ultimates : (i : ℕ) → i ≤ k → ultimate c q i ≤ most_ultimate
  pub reporting : total (take (k + 1) b) ≡ million
  pub weight : w ≤ million
  pub ratio : p ≤ million
