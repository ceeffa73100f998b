-- The nearest whole number of a float: where a truncation and one comparison find it, and that it is within a half. Assumes nothing.
use Rattle.std.proofs.Common.{◌≡◌, ℕ, ◌+◌, ◌-◌, ◌*◌, ◌/◌, ◌^◌, ◌<◌, ◌≤◌, Bool, true, false, cond, ltb, ◌⊎◌, ℤ, pos, sym, refl, ap, ◌∙◌, subst, inl, inr, true≢false, lt_of_lt_of_le, mul_assoc, lt_of_mul-lt-mul_right, mul-lt-mul_of_pos_right, mul-pos, le-div_iff_mul-le, div-mul-le_self, le_of_mul-le-mul_right, arith, lit<, lit≤, pow_pos, ltb-false, ltb-true, lt-ltb}
use native.Mathlib.Nat.{div-eq_of_lt-le, lt-div-mul-add}
use lib.Ieee.{Float, nan, inf, fin, binary64, up, down, add, sum, lt, round, of_int, to_unsigned}
use lib.Ieee.Fits.{down_pos}
use lib.Ieee.Exact.{HasValue, round_exact}
use lib.Ieee.Scale.{round_same}
use lib.Ieee.Back.{round_whole}
use Rattle.rules.specs.Record.{most_index}
use Rattle.rules.specs.Inflation.{half, nearest_whole, WithinHalf}

-- numbers: n / d rounded down is t

module _ (n d t : ℕ) (p : 0 < d) (e : t ≡ n / d) where
  floor_le : t * d ≤ n
  floor_le = rw e (div-mul-le_self n d)

  floor_lt : n < t * d + d
  floor_lt = rw e (lt-div-mul-add {a = n} p)

  -- below the middle
  stays : n * 2 < (2 * t + 1) * d → (2 * n + d) / (2 * d) ≡ t
  stays h = div-eq_of_lt-le (2 * d) (omega (arith, floor_le)) (omega arith)

  -- from the middle on
  goes_up : (2 * t + 1) * d ≤ n * 2 → (2 * n + d) / (2 * d) ≡ t + 1
  goes_up h = div-eq_of_lt-le (2 * d) (omega arith) (omega (arith, floor_lt))

-- rounding to the nearest never goes below rounding down
least : (n d b : ℕ) → 0 < d → b * d ≤ n → b ≤ (2 * n + d) / (2 * d)
least n d b p h = (le-div_iff_mul-le {k = 2 * d} (omega arith)).1 (omega arith)

-- x / c is below y / d, and y / d is a / 2
cross_lt : (x c y d a : ℕ) → y * 2 ≡ a * d → x * d < y * c → x * 2 < a * c
cross_lt x c y d a e h = lt_of_mul-lt-mul_right d (omega (arith, ap (λ (z : ℕ). z * c) e))

cross_le : (x c y d a : ℕ) → 0 < d → y * 2 ≡ a * d → y * c ≤ x * d → a * c ≤ x * 2
cross_le x c y d a p e h = le_of_mul-le-mul_right {k = d} (omega (arith, ap (λ (z : ℕ). z * c) e)) p

-- floats

-- (2 × t + 1) / 2 is a float
half_exact : (q : ℕ) → q < 2 ^ 53 → HasValue (round binary64 false q 2) false q 2
half_exact q h =
    round_exact binary64 false q 2 q 1073 (lit< tt) h
    (lt_of_lt_of_le (mul-lt-mul_of_pos_right {k = 2 ^ 1073} h (pow_pos 1073)) (lit≤ tt))
    (sym (mul_assoc q (2 ^ 1073) 2))

plus_half : (t m : ℕ) (e : ℤ) → m * up e * 1 ≡ t * down e → add binary64 (fin false m e) half ≡ round binary64 false (2 * t + 1) 2
unfolding add sum
plus_half t m e v =
    round_same binary64 false (m * up e * 2 + 1 * down e) (down e * 2) (2 * t + 1) 2 (omega (arith, down_pos e)) (omega arith) (omega arith)

-- a whole number up to 5,000,000 and a half is a float
pub middle_value : (t : ℕ) → t ≤ most_index → HasValue (add binary64 (of_int binary64 (pos t)) half) false (2 * t + 1) 2
unfolding of_int
middle_value t h = go (round binary64 false t 1) (round_whole binary64 false t (omega arith))
  where
    go : (x : Float) → HasValue x false t 1 → HasValue (add binary64 x half) false (2 * t + 1) 2
    go nan v = absurd v
    go (inf s) v = absurd v
    go (fin true m e) v = absurd (true≢false v.0)
    go (fin false m e) v = subst (λ (y : Float). HasValue y false (2 * t + 1) 2) (sym (plus_half t m e v.1)) (half_exact (2 * t + 1) (omega arith))

-- the comparisons of the code, and what they say of the nearest whole number

-- not above −1.0
pub not_above : (x : Float) → lt (fin true 1 (pos 0)) x ≡ false → nearest_whole x ≡ 0
unfolding nearest_whole lt
not_above nan h = refl
not_above (inf s) h = refl
not_above (fin true m e) h = refl
not_above (fin false m e) h = absurd (true≢false (sym (lt-ltb 0 (1 * 1 * down e + m * up e * 1) (omega (arith, down_pos e))) ∙ h))

-- not below 2 ^ 64
pub not_below : (x : Float) → lt x (fin false 1 (pos 64)) ≡ false → (nearest_whole x ≡ 0) ⊎ (most_index < nearest_whole x)
unfolding nearest_whole lt
not_below nan h = inl refl
not_below (inf s) h = inl refl
not_below (fin true m e) h = inl refl
not_below (fin false m e) h = inr (least (m * up e) (down e) 5000001 (down_pos e) (omega (arith, ltb-false (m * up e * 1) (1 * 2 ^ 64 * down e) h)))

-- truncated, above 5,000,000
pub large : (x : Float) → most_index < to_unsigned 64 x → (nearest_whole x ≡ 0) ⊎ (most_index < nearest_whole x)
unfolding nearest_whole to_unsigned
large nan h = inl refl
large (inf s) h = inl refl
large (fin true m e) h = inl refl
large (fin false m e) h = inr (least (m * up e) (down e) 5000001 (down_pos e) ((le-div_iff_mul-le {x = 5000001} (down_pos e)).0 (omega arith)))

-- a truncation t up to 5,000,000, and a comparison with t and a half
pub found : (x y : Float) (t : ℕ) → lt (fin true 1 (pos 0)) x ≡ true → lt x (fin false 1 (pos 64)) ≡ true
    → t ≡ to_unsigned 64 x → t ≤ most_index → HasValue y false (2 * t + 1) 2 → nearest_whole x ≡ cond (lt x y) t (t + 1)
unfolding nearest_whole to_unsigned lt
found nan y t a b e h v = absurd (true≢false (sym a))
found (inf true) y t a b e h v = absurd (true≢false (sym a))
found (inf false) y t a b e h v = absurd (true≢false (sym b))
found (fin s m e) nan t a b q h v = absurd v
found (fin s m e) (inf r) t a b q h v = absurd v
found (fin s m e) (fin true n d) t a b q h v = absurd (true≢false v.0)
found (fin true m e) (fin false n d) t a b q h v =
    let n_pos : 0 < n * up d = omega (arith, down_pos d) in
    rw (lt-ltb 0 (m * up e * down d + n * up d * down e) (omega (arith, mul-pos n_pos (down_pos e)))) (sym q)
found (fin false m e) (fin false n d) t a b q h v = pick (ltb (m * up e * down d) (n * up d * down e)) refl
  where
    down_t : t ≡ m * up e / down e
    down_t = omega arith

    pick : (c : Bool) → ltb (m * up e * down d) (n * up d * down e) ≡ c → (2 * (m * up e) + down e) / (2 * down e) ≡ cond c t (t + 1)
    pick true g = stays (m * up e) (down e) t (down_pos e) down_t (cross_lt (m * up e) (down e) (n * up d) (down d) (2 * t + 1) v.1 (ltb-true _ _ g))
    pick false g = goes_up (m * up e) (down e) t (down_pos e) down_t (cross_le (m * up e) (down e) (n * up d) (down d) (2 * t + 1) (down_pos d) v.1 (ltb-false _ _ g))

-- the nearest whole number is within a half, and is the only one that is

-- it is within a half
pub nearest_within : (x : Float) → 1 ≤ nearest_whole x → WithinHalf x (nearest_whole x)
unfolding nearest_whole
nearest_within nan h = omega arith
nearest_within (inf s) h = omega arith
nearest_within (fin true m e) h = omega arith
nearest_within (fin false m e) h =
    let n = 2 * (m * up e) + down e in
    let d = 2 * down e in
    let p : 0 < d = omega (arith, down_pos e) in
    (omega (arith, div-mul-le_self n d), omega (arith, lt-div-mul-add {a = n} p))

-- and no other is
pub nearest_only : (x : Float) (w : ℕ) → WithinHalf x w → w ≡ nearest_whole x
unfolding nearest_whole
nearest_only nan w h = absurd h
nearest_only (inf s) w h = absurd h
nearest_only (fin true m e) w h = absurd h
nearest_only (fin false m e) w h = sym (div-eq_of_lt-le {k = w} (2 * down e) (omega arith) (omega arith))
