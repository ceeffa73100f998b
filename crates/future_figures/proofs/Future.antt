-- Where the rows past the diagonal start and end. Assumes nothing.
use Prim.Native.Nat.{ℕ, zero, suc, ◌+◌, ◌*◌, ◌/◌, ◌≤◌, ◌<◌}
use native.Mathlib.Omega.{arith}
use mathlib.Core.Path.{◌≡◌, refl}
use Rattle.rules.specs.Triangle.{future_start}
use Rattle.laws.proofs.Joined.{future_most}
use Rattle.listing.proofs.Known.{start_least}

pub start_twice : (i : ℕ) → 2 * future_start (suc i) ≡ (i + 1) * i
unfolding future_start
start_twice zero = refl
start_twice (suc i) = omega (arith, start_twice i)

pub place_most : (i : ℕ) → i < 16 → (i + 1) * i ≤ 240
place_most i h = omega (arith, start_twice i, future_most (suc i) h)

-- the place of the payment of row i + 1 in the payment year k + 1 + t
pub payment_place : (i : ℕ) → (i + 1) * i / 2 ≡ future_start (suc i)
payment_place i = omega (arith, start_twice i)

pub payment_inside : (k i t : ℕ) → i < k → t ≤ i → future_start (suc i) + t < future_start (k + 1)
payment_inside k i t h l = omega (arith, start_least k (suc i) h)
