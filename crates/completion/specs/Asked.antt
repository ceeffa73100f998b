-- What completing the triangle asks of its numbers, and how many rows it completes before question 11 says no. Assumes nothing.
use Rattle.std.specs.Prelude.{ℕ, ◌+◌, ◌*◌, ◌≤◌, ◌<◌, List, leb, get_or}
use Rattle.rules.specs.Lists.{padded}
use Rattle.rules.specs.Record.{million}
use Rattle.rules.specs.Separation.{billion}
use Rattle.rules.specs.Completion.{provisions, ultimate, most_ultimate}
use Rattle.entries.specs.Leading.{asked}

-- exposures n, shares r and future levels l of the years 0 to k within their limits
pub record Completable (k : ℕ) (n r l : List ℕ) : Type 0 where
  pub few : k < 16
  pub exposures : (i : ℕ) → get_or n i 0 ≤ million
  pub shares : (j : ℕ) → get_or r j 0 ≤ billion
  pub levels : (t : ℕ) → get_or l t 0 ≤ 5 * billion

-- the most of a payment and of a tail payment: 1,000,000 claims at 5 × 10^9 hundredths
abbrev pub most_payment : ℕ
most_payment = 50 * most_ultimate

-- the rows whose ultimate is asked for, z the tail payments and c the paid cumulatives: up to the first that is above the most
unfoldable pub rows_asked : ℕ → List ℕ → List ℕ → List ℕ → List ℕ → List ℕ → ℕ
rows_asked k n r l z c = asked (λ i. leb (ultimate c (padded 16 0 (provisions k n r l z)) i) most_ultimate) (k + 1)
