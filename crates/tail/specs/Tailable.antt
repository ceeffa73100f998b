-- What carrying the tail on asks of its numbers, and how far it goes. Assumes nothing.
use Rattle.std.specs.Prelude.{ℕ, ◌+◌, ◌≤◌, ◌<◌, cond, List, [], leb, get_or}
use Rattle.rules.specs.Lists.{up_to}
use Rattle.rules.specs.Record.{million, most_index, most_amount}
use Rattle.rules.specs.Tail.{tail_average, tail_payment, most_tail_average, first_tail_average_passes}
use Rattle.entries.specs.Leading.{leading}

-- exposures n and indices e of the years 0 to k, within their limits
pub record Carriable (k : ℕ) (n e : List ℕ) : Type 0 where
  pub few : k < 16
  pub exposures : (i : ℕ) → get_or n i 0 ≤ million
  pub first_index : 1 ≤ get_or e 0 0
  pub indices : (i : ℕ) → get_or e i 0 ≤ most_index

-- and with them the amount a still to be paid for the claims of year 0
pub record Tailable (k a : ℕ) (n e : List ℕ) : Type 0 where
  pub years : Carriable k n e
  pub tail : a ≤ most_amount
  pub claims : 1 ≤ get_or n 0 0

-- how many years pass question 19 before the first that does not
unfoldable pub years_carried : ℕ → ℕ → List ℕ → ℕ
years_carried k t e = leading (λ i. leb (tail_average t e i) most_tail_average) (k + 1)

-- the tail payments that are worked out: none where question 18 says no
unfoldable pub tails_carried : ℕ → List ℕ → ℕ → List ℕ → List ℕ
tails_carried k n t e = cond (first_tail_average_passes t) (up_to (tail_payment n t e) (years_carried k t e)) []
