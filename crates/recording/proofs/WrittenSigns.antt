-- An increment by its sign: its size and its bits. Assumes nothing.
use mathlib.Core.Path.{◌≡◌, subst}
use mathlib.Core.Bool.{true, false}
use Prim.Native.Nat.{◌+◌, ◌≤◌, ◌<◌}
use native.Mathlib.Omega.{arith}
use borrow.Author.Tests.{ltb-true, leb-true}
use lib.Dec.{T, leb}
use lib.IntN.{ℤ, pos, negsuc, nat_abs}
use lib.Signed.{lt_z}
use Rattle.rules.specs.Record.{increment, in_range, code_of, most_amount}
use Rattle.laws.proofs.Lists.{both_right}

-- the size of an increment
pub size_most : (z : ℤ) → in_range increment z ≡ true → nat_abs z ≤ most_amount
unfolding in_range
size_most z h = leb-true (nat_abs z) most_amount (both_right (leb 0 (nat_abs z)) (leb (nat_abs z) most_amount) h)

-- the bits of an increment below 0, and of one that is not
pub code_below : (z : ℤ) → lt_z z (pos 0) ≡ true → code_of increment z ≡ 17179869184 + nat_abs z
unfolding code_of
code_below (pos n) h = let l : n < 0 = ltb-true n 0 h in absurd (omega arith)
code_below (negsuc n) h = omega arith

pub code_above : (z : ℤ) → lt_z z (pos 0) ≡ false → code_of increment z ≡ nat_abs z
unfolding code_of
code_above (pos n) h = omega arith
code_above (negsuc n) h = absurd (subst T h tt)
