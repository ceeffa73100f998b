-- Entries of a position stand in the longest list. Assumes nothing.
use mathlib.Core.Path.{◌≡◌, ap}
use Prim.Native.Nat.{ℕ, ◌+◌, ◌-◌, ◌*◌, ◌≤◌, ◌<◌}
use native.Mathlib.Nat.{mul-le-mul_right}
use native.Mathlib.Omega.{arith}
use Rattle.history_places.specs.Places.{Inside}

pub entry_inside : (width a e : ℕ) → Inside width a → e ≤ 2 * width → a * (1 + 2 * width) + e < 1617
entry_inside width a e (fits, few) h =
    let u = 16 - width in
    let whole : width + u ≡ 16 = omega arith in
    let square = ap (λ (z : ℕ). z * u) whole in
    let most : a * (1 + 2 * width) ≤ (48 + u) * (1 + 2 * width) = mul-le-mul_right (1 + 2 * width) (omega arith) in
    omega (arith, most, square, whole)
