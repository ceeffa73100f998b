-- No running share is above that of the year after it. Assumes nothing.
use Prim.Native.Nat.{ℕ, ◌-◌, ◌*◌, ◌/◌, ◌≤◌}
use native.Mathlib.Nat.{div-le_of_le-mul, mul-le-mul_left, mul_comm}
use native.Mathlib.Omega.{arith}

-- a part of a number is at most the number
pub below_part_most : (a t v : ℕ) → a * (t - v) / t ≤ a
below_part_most a t v = div-le_of_le-mul t (rw (mul_comm t a) (mul-le-mul_left a (omega arith)))
