-- A step's sum is small: at most 14 gaps (gap_small). Assumes nothing.
use mathlib.Core.List.{List}
use Prim.Native.Nat.{ℕ, ◌+◌, ◌*◌, ◌≤◌}
use native.Mathlib.Nat.{mul-le-mul_right}
use native.Mathlib.Omega.{arith}
use lib.IntN.{ℤ, nat_abs}
use Rattle.rules.specs.Lists.{total, up_to}
use Rattle.laws.proofs.Totals.{total_each}
use Rattle.hindsight_places.specs.Places.{gap_at, most_gap_sum, GapsSmall}
use Rattle.hindsight_places.proofs.Small.{gap_small}
use Rattle.hindsight_steps.specs.Steps.{step_sum}

-- the gaps of n origin years
pub gaps_small : (list : List ℤ) → GapsSmall list → (k a h n : ℕ) → total (up_to (λ m. nat_abs (gap_at list k a h (m + 1))) n) ≤ n * most_gap_sum
gaps_small list small k a h n = total_each (λ m. nat_abs (gap_at list k a h (m + 1))) most_gap_sum n (λ m l. gap_small list small k a h (m + 1))

pub step_small : (list : List ℤ) → GapsSmall list → (k a h : ℕ) → h ≤ 14 → step_sum list k a h ≤ 14 * most_gap_sum
unfolding step_sum
step_small list small k a h few = omega (arith, gaps_small list small k a h h, mul-le-mul_right {m = h} {n = 14} most_gap_sum few)
