-- The sum and the difference of two numbers of the size of a sum. Assumes nothing.
use Prim.Native.Nat.{zero, suc, ◌+◌, ◌≤◌}
use native.Mathlib.Omega.{arith}
use mathlib.Core.Path.{◌≡◌, refl}
use lib.IntN.{ℤ, pos, negsuc, nat_abs, neg_ℤ, ◌+ℤ◌, ◌-ℤ◌}
use mir.Syntax.{w64}
use mir.Val.{SFits}
use Rattle.laws.proofs.Signed.{size_fits, sum_size_lem}
use Rattle.signed_sums.specs.Small.{Summed}

negated_size : (y : ℤ) → nat_abs (neg_ℤ y) ≡ nat_abs y
negated_size (pos zero) = refl
negated_size (pos (suc n)) = refl
negated_size (negsuc n) = refl

pub difference_size : (x y : ℤ) → nat_abs (x -ℤ y) ≤ nat_abs x + nat_abs y
difference_size x y = omega (arith, sum_size_lem x (neg_ℤ y), negated_size y)

pub sum_fits : (x y : ℤ) → Summed x → Summed y → SFits w64 (x +ℤ y)
sum_fits x y h k = size_fits (x +ℤ y) (omega (arith, sum_size_lem x y))

pub difference_fits : (x y : ℤ) → Summed x → Summed y → SFits w64 (x -ℤ y)
difference_fits x y h k = size_fits (x -ℤ y) (omega (arith, difference_size x y))
