-- The increment with given bits, and whether they are in range. Assumes nothing.
use mathlib.Core.Path.{◌≡◌}
use mathlib.Core.Bool.{◌&&◌, not}
use Prim.Native.Nat.{ℕ, ◌-◌, ◌/◌, ◌%◌, ◌^◌, ◌≤◌, ◌<◌}
use native.Mathlib.Omega.{arith}
use lib.Dec.{eqb, leb, leb-zero}
use lib.IntN.{pos, neg_ℤ, nat_abs}
use Rattle.rules.specs.Record.{increment, value_of, in_range, negative_zero, bits_in_range}
use Rattle.laws.proofs.Signed.{signed_size}

-- with sign bit 0 the bits are the increment
pub amount_plus : (code : ℕ) → code < 2 ^ 34 → value_of increment code ≡ pos code
unfolding value_of
amount_plus code h =
    let e : code / 2 ^ 34 ≡ 0 = omega arith in
    let f : code % 2 ^ 34 ≡ code = omega arith in
    rw (e, f)

-- with sign bit 1 the other bits are its size
pub amount_minus : (code : ℕ) → 2 ^ 34 ≤ code → code < 2 ^ 35 → value_of increment code ≡ neg_ℤ (pos (code - 2 ^ 34))
unfolding value_of
amount_minus code l h =
    let e : code / 2 ^ 34 ≡ 1 = omega arith in
    let f : code % 2 ^ 34 ≡ code - 2 ^ 34 = omega arith in
    rw (e, f)

-- the bits after the sign bit are the size of the increment
amount_size : (code : ℕ) → nat_abs (value_of increment code) ≡ code % 2 ^ 34
unfolding value_of
amount_size code = signed_size (code / 2 ^ 34) (code % 2 ^ 34)

-- bits are in range if the size is at most 10^10 and they are not a zero with sign 1
pub amount_range : (code : ℕ) → bits_in_range increment code ≡ leb (code % 2 ^ 34) 10000000000 && not (eqb code (2 ^ 34))
unfolding bits_in_range in_range negative_zero
amount_range code = rw (amount_size code, leb-zero (code % 2 ^ 34))
