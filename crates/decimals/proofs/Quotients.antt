-- A whole number over another, both of which are floats: one rounded division gives the float nearest to the fraction. Assumes nothing.
use mathlib.Core.Path.{◌≡◌, ap}
use mathlib.Core.Bool.{Bool, true, false}
use Prim.Native.Nat.{ℕ, ◌*◌, ◌^◌, ◌≤◌, ◌<◌}
use native.Mathlib.Omega.{arith}
use native.Mathlib.Nat.{mul-pos}
use borrow.Author.Tests.{ne_eqb}
use lib.IntN.{pos}
use lib.Ieee.{Float, nan, inf, fin, binary64, up, down, unlike, neg, div, round, of_int}
use lib.Ieee.Fits.{down_pos}
use lib.Ieee.Exact.{HasValue}
use lib.Ieee.Scale.{round_same}
use lib.Ieee.Back.{round_whole}

-- the sign of a quotient by what is not negative
plain_sign : (s t u : Bool) → t ≡ s → u ≡ false → unlike t u ≡ s
plain_sign true t u e f = rw (e, f)
plain_sign false t u e f = rw (e, f)

-- x is n with the sign s, and y is m, which is not 0
quotient_is : (x y : Float) (s : Bool) (n m : ℕ) → HasValue x s n 1 → HasValue y false m 1 → 0 < m → div binary64 x y ≡ round binary64 s n m
unfolding div
quotient_is nan y s n m v w h = absurd v
quotient_is (inf t) y s n m v w h = absurd v
quotient_is (fin t a e) nan s n m v w h = absurd w
quotient_is (fin t a e) (inf u) s n m v w h = absurd w
quotient_is (fin t a e) (fin u b d) s n m v w h =
    let some : 0 < b * up d = omega (arith, w.1, mul-pos h (down_pos d)) in
    let cross : a * up e * down d * m ≡ n * (b * up d * down e) =
    omega (arith, ap (λ (z : ℕ). z * (down d * m)) v.1, ap (λ (z : ℕ). z * (n * down e)) w.1) in
    rw (ne_eqb b 0 (λ z. not_zero (b * up d) (rw z) some), plain_sign s t u v.0 w.0)
    (round_same binary64 s (a * up e * down d) (b * up d * down e) n m (mul-pos some (down_pos e)) h cross)
  where
    not_zero : (k : ℕ) → k ≡ 0 * up d → 0 < k → ⊥
    not_zero k z p = omega arith

-- a whole number up to 2^53, with either sign, is a float
of_int_lem : (n : ℕ) → n ≤ 2 ^ 53 → HasValue (of_int binary64 (pos n)) false n 1
unfolding of_int
of_int_lem n h = round_whole binary64 false n h

negated : (x : Float) (n : ℕ) → HasValue x false n 1 → HasValue (neg x) true n 1
unfolding neg
negated nan n v = absurd v
negated (inf t) n v = absurd v
negated (fin t m e) n v = (rw v.0, v.1)

module _ (n m : ℕ) (h : n ≤ 2 ^ 53) (l : m ≤ 2 ^ 53) (p : 0 < m) where
  pub whole_quotient : div binary64 (of_int binary64 (pos n)) (of_int binary64 (pos m)) ≡ round binary64 false n m
  whole_quotient = quotient_is _ _ false n m (of_int_lem n h) (of_int_lem m l) p

  pub whole_quotient_below : div binary64 (neg (of_int binary64 (pos n))) (of_int binary64 (pos m)) ≡ round binary64 true n m
  whole_quotient_below = quotient_is _ _ true n m (negated _ n (of_int_lem n h)) (of_int_lem m l) p
