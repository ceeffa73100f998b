-- A rate from −0.5 to 1.0 that moves halfway toward another such rate is one again, each step rounded. The difference d of the two is rounded, halved and rounded again:
-- where 2^-k ≤ d ≤ 2^(1 − k), these powers are floats and bound each step, so that no more than d is added; and where d is below 2^-60, no more than 2^-60 is, which the
-- last rounding drops at a limit. Assumes nothing.
use mathlib.Core.Path.{◌≡◌, refl, sym, ap, subst}
use mathlib.Core.Bool.{Bool, true, false, not, cond}
use Prim.Native.Nat.{ℕ, zero, suc, ◌+◌, ◌-◌, ◌*◌, ◌^◌, ◌≤◌, ◌<◌}
use native.Mathlib.Decide.{dec_le}
use native.Mathlib.Nat.{mul-pos, mul-le-mul_right, le_of_mul-le-mul_right, pow-suc, one-mul}
use native.Mathlib.Omega.{arith}
use borrow.Author.Tests.{ltb-true, ltb-false}
use lib.Dec.{ltb, lit<}
use lib.Pow.{pow-add, pow_pos, pow-lt}
use lib.IntN.{ℤ}
use lib.Ieee.{Float, nan, inf, fin, binary64, up, down, add, sub, neg, sum, mul, round}
use lib.Ieee.Fits.{down_pos}
use lib.Ieee.Exact.{HasValue, round_exact}
use Rattle.rules.specs.Inflation.{half}
use Rattle.inflation_bounds.proofs.Rounding.{AtMost, most_more, round_most}

-- the limit of a rate above zero and below it, in halves
abbrev pub limit : Bool → ℕ
limit false = 2
limit true = 1

-- a rate within its limits, by its fraction
abbrev pub RateWithin : Float → Type 0
RateWithin nan = ⊥
RateWithin (inf s) = ⊥
RateWithin (fin s m e) = 2 * (m * up e) ≤ limit s * down e

-- 2^60
abbrev fine : ℕ
fine = 1152921504606846976

-- powers of two are floats

powers : (i j k : ℕ) → i ≡ j + k → 2 ^ i ≡ 1 * 2 ^ j * 2 ^ k
powers i j k e = rw (e, pow-add 2 j k, one-mul)

power_exact : (k : ℕ) → k ≤ 61 → HasValue (round binary64 false 2 (2 ^ k)) false 2 (2 ^ k)
power_exact k h =
    round_exact binary64 false 2 (2 ^ k) 1 (1075 - k) (pow_pos k) (lit< tt) (rw one-mul (pow-lt {j = 2098} (omega arith)))
    (powers 1075 (1075 - k) k (omega arith))

-- half of a float that is at most p / q in size

mul_half : (x : Float) (s : Bool) (p q : ℕ) → 0 < q → AtMost x s p q → HasValue (round binary64 false p (q * 2)) false p (q * 2)
    → AtMost (mul binary64 half x) s p (q * 2)
unfolding mul
mul_half nan s p q l h v = absurd h
mul_half (inf t) s p q l h v = absurd h
mul_half (fin true m e) s p q l h v =
    subst (λ (r : Bool). AtMost (mul binary64 half (fin true m e)) r p (q * 2)) h.0
    (round_most binary64 true (1 * 1 * (m * up e)) (2 * down e) p (q * 2) p (q * 2) (omega (arith, down_pos e)) (omega arith) (omega arith) v)
mul_half (fin false m e) s p q l h v =
    subst (λ (r : Bool). AtMost (mul binary64 half (fin false m e)) r p (q * 2)) h.0
    (round_most binary64 false (1 * 1 * (m * up e)) (2 * down e) p (q * 2) p (q * 2) (omega (arith, down_pos e)) (omega arith) (omega arith) v)

module _ (s : Bool) (D c : ℕ) (C : 0 < c) where
  -- D / c of at most 2^(1 − k), rounded, halved and rounded again
  halved_at : (k : ℕ) → k ≤ 60 → D * 2 ^ k ≤ 2 * c → AtMost (mul binary64 half (round binary64 s D c)) s 1 (2 ^ k)
  halved_at k l h =
      let first = round_most binary64 s D c 2 (2 ^ k) 2 (2 ^ k) C (pow_pos k) h (power_exact k (omega arith)) in
      let again : HasValue (round binary64 false 2 (2 ^ k * 2)) false 2 (2 ^ k * 2) = rw pow-suc at (power_exact (suc k) (omega arith)) in
      most_more (mul binary64 half (round binary64 s D c)) s 2 (2 ^ k * 2) 1 (2 ^ k) (omega (arith, pow_pos k))
      (mul_half (round binary64 s D c) s 2 (2 ^ k) (pow_pos k) first again) (omega arith)

  -- it is at most D / c + 2^-60: D / c is at most 2^(1 − k), and is below 2^-k too or is not
  halved : (j k : ℕ) → k + j ≡ 60 → D * 2 ^ k ≤ 2 * c → AtMost (mul binary64 half (round binary64 s D c)) s (D * fine + c) (c * fine)
  halved zero k e h =
      let last : k ≡ 60 = omega arith in
      most_more (mul binary64 half (round binary64 s D c)) s 1 fine (D * fine + c) (c * fine) (omega arith) (rw last at (halved_at k (omega arith) h)) (omega arith)
  halved (suc j) k e h = go (halved_at k (omega arith) h) (halved j (suc k) (omega arith)) (dec_le c (D * 2 ^ k))
    where
      go : AtMost (mul binary64 half (round binary64 s D c)) s 1 (2 ^ k)
          → (D * 2 ^ suc k ≤ 2 * c → AtMost (mul binary64 half (round binary64 s D c)) s (D * fine + c) (c * fine))
          → Dec (c ≤ D * 2 ^ k) → AtMost (mul binary64 half (round binary64 s D c)) s (D * fine + c) (c * fine)
      go a later (yes g) = most_more (mul binary64 half (round binary64 s D c)) s 1 (2 ^ k) (D * fine + c) (c * fine) (pow_pos k) a (omega (arith, mul-le-mul_right fine g))
      go a later (no g) = later (rw (pow-suc 2 k) (omega arith))

-- the difference of two rates

-- n / d goes by D / c in the direction s, up to the limit there: s is its own sign, or the other
abbrev Onward : ℕ → ℕ → Bool → ℕ → ℕ → Type 0
Onward n d s D c = 2 * (n * c + D * d) ≤ limit s * (c * d)

abbrev Back : ℕ → ℕ → Bool → ℕ → ℕ → Type 0
Back n d s D c = 2 * (D * d) ≤ limit s * (c * d) + 2 * (n * c)

-- t is the sign of n / d
abbrev Room : Bool → ℕ → ℕ → Bool → ℕ → ℕ → Type 0
Room false n d false D c = Onward n d false D c
Room true n d true D c = Onward n d true D c
Room false n d true D c = Back n d true D c
Room true n d false D c = Back n d false D c

-- z is D / c with the sign s, rounded, for which there is room
record Moves (t : Bool) (n d : ℕ) (z : Float) : Type 0 where
  s : Bool
  D : ℕ
  c : ℕ
  least : 0 < c
  most : D ≤ 2 * c
  room : Room t n d s D c
  is : z ≡ round binary64 s D c

-- the numbers of each case: x / y is the rate that is left, n / d the one that it moves toward
module _ (x y n d : ℕ) where
  room_onward : (w : ℕ) → 2 * x ≤ w * y → n * y ≤ x * d → 2 * (n * (y * d) + (x * d - n * y) * d) ≤ w * (y * d * d)
  room_onward w h k =
      let e : x * d - n * y + n * y ≡ x * d = omega arith in
      omega (arith, ap (λ (z : ℕ). z * d) e, mul-le-mul_right (d * d) h)

  room_across : (w : ℕ) → 2 * x ≤ w * y → 2 * ((x * d + n * y) * d) ≤ w * (y * d * d) + 2 * (n * (y * d))
  room_across w h = omega (arith, mul-le-mul_right (d * d) h)

  room_back : (w : ℕ) → 2 * ((n * y - x * d) * d) ≤ w * (y * d * d) + 2 * (n * (y * d))
  room_back w =
      let e : n * y - x * d ≤ n * y = omega arith in
      omega (arith, mul-le-mul_right d e)

  module _ (Y : 0 < y) (E : 0 < d) (h : x ≤ y) (k : n ≤ d) where
    -- two rates lie at most 2 apart
    apart : x * d + n * y ≤ 2 * (y * d)
    apart = omega (arith, mul-le-mul_right d h, mul-le-mul_right y k)

    moves : (t s : Bool) (D : ℕ) → D ≤ x * d + n * y → Room t n d s D (y * d) → Moves t n d (round binary64 s D (y * d))
    moves t s D l r = record { s = s; D = D; c = y * d; least = mul-pos Y E; most = omega (arith, apart); room = r; is = refl }

    difference : (s t : Bool) → 2 * x ≤ limit s * y → Moves t n d (sum binary64 s (x * d) (not t) (n * y) (y * d))
    unfolding sum
    difference false true f = moves true false (x * d + n * y) (omega arith) (room_across 2 f)
    difference true false f = moves false true (x * d + n * y) (omega arith) (room_across 1 f)
    difference false false f = go (ltb (x * d) (n * y)) refl
      where
        go : (b : Bool) → ltb (x * d) (n * y) ≡ b
            → Moves false n d (cond b (round binary64 true (n * y - x * d) (y * d)) (round binary64 false (x * d - n * y) (y * d)))
        go true g = moves false true (n * y - x * d) (omega arith) (room_back 1)
        go false g = moves false false (x * d - n * y) (omega arith) (room_onward 2 f (ltb-false (x * d) (n * y) g))
    difference true true f = go (ltb (x * d) (n * y)) (ltb (n * y) (x * d)) refl refl
      where
        go : (b a : Bool) → ltb (x * d) (n * y) ≡ b → ltb (n * y) (x * d) ≡ a
            → Moves true n d (cond b (round binary64 false (n * y - x * d) (y * d)) (round binary64 a (x * d - n * y) (y * d)))
        go true a g l = moves true false (n * y - x * d) (omega arith) (room_back 2)
        go false true g l = moves true true (x * d - n * y) (omega arith) (room_onward 1 f (ltb-false (x * d) (n * y) g))
        go false false g l =
            let e : x * d - n * y ≡ 0 = omega (arith, ltb-false (n * y) (x * d) l) in
            moves true false (x * d - n * y) (omega arith) (rw e (omega arith))

-- the sum of the rate and half of the difference

-- a rounded fraction that is at most the limit and 2^-60 is at most the limit

limit_rounded : (s : Bool) → HasValue (round binary64 false (limit s * fine + 2) (2 * fine)) false (limit s) 2
unfolding round
limit_rounded false = (refl, refl)
limit_rounded true = (refl, refl)

at_limit : (x : Float) (s : Bool) → AtMost x s (limit s) 2 → RateWithin x
at_limit nan s v = v
at_limit (inf t) s v = v
at_limit (fin t m e) s v = rw v.0 (omega arith)

within_rounded : (s : Bool) (a b : ℕ) → 0 < b → a * (2 * fine) ≤ (limit s * fine + 2) * b → RateWithin (round binary64 s a b)
within_rounded s a b B h =
    at_limit (round binary64 s a b) s
    (round_most binary64 s a b (limit s * fine + 2) (2 * fine) (limit s) 2 B (omega arith) h (limit_rounded s))

-- the numbers of each case: n / d is the rate, a / b what is added, w the limit, and t stands for 2^60
module _ (n d a b D c w t : ℕ) where
  sum_onward : 0 < c → 2 * (n * c + D * d) ≤ w * (c * d) → a * (c * t) ≤ (D * t + c) * b → (n * b + a * d) * (2 * t) ≤ (w * t + 2) * (d * b)
  sum_onward C h k = le_of_mul-le-mul_right {k = c} (omega (arith, mul-le-mul_right (b * t) h, mul-le-mul_right (2 * d) k)) C

  sum_back : 0 < c → 2 * (D * d) ≤ w * (c * d) + 2 * (n * c) → a * (c * t) ≤ (D * t + c) * b → n * b ≤ a * d → (a * d - n * b) * (2 * t) ≤ (w * t + 2) * (d * b)
  sum_back C h k l =
      let e : a * d - n * b + n * b ≡ a * d = omega arith in
      le_of_mul-le-mul_right {k = c} (omega (arith, ap (λ (z : ℕ). z * (2 * t * c)) e, mul-le-mul_right (b * t) h, mul-le-mul_right (2 * d) k)) C

  sum_short : 2 * n ≤ w * d → (n * b - a * d) * (2 * t) ≤ (w * t + 2) * (d * b)
  sum_short h =
      let e : n * b - a * d ≤ n * b = omega arith in
      omega (arith, mul-le-mul_right (2 * t) e, mul-le-mul_right (b * t) h)

module _ (n d a b D c : ℕ) (E : 0 < d) (B : 0 < b) (C : 0 < c) (k : a * (c * fine) ≤ (D * fine + c) * b) where
  sum_within : (t s : Bool) → 2 * n ≤ limit t * d → Room t n d s D c → RateWithin (sum binary64 t (n * b) s (a * d) (d * b))
  unfolding sum
  sum_within false false l r = within_rounded false (n * b + a * d) (d * b) (mul-pos E B) (sum_onward n d a b D c 2 fine C r k)
  sum_within true true l r = within_rounded true (n * b + a * d) (d * b) (mul-pos E B) (sum_onward n d a b D c 1 fine C r k)
  sum_within false true l r = go (ltb (n * b) (a * d)) refl
    where
      go : (x : Bool) → ltb (n * b) (a * d) ≡ x → RateWithin (cond x (round binary64 true (a * d - n * b) (d * b)) (round binary64 false (n * b - a * d) (d * b)))
      go true g = within_rounded true (a * d - n * b) (d * b) (mul-pos E B) (sum_back n d a b D c 1 fine C r k (omega (arith, ltb-true (n * b) (a * d) g)))
      go false g = within_rounded false (n * b - a * d) (d * b) (mul-pos E B) (sum_short n d a b D c 2 fine l)
  sum_within true false l r = go (ltb (n * b) (a * d)) (ltb (a * d) (n * b)) refl
    where
      go : (x y : Bool) → ltb (n * b) (a * d) ≡ x → RateWithin (cond x (round binary64 false (a * d - n * b) (d * b)) (round binary64 y (n * b - a * d) (d * b)))
      go true y g = within_rounded false (a * d - n * b) (d * b) (mul-pos E B) (sum_back n d a b D c 2 fine C r k (omega (arith, ltb-true (n * b) (a * d) g)))
      go false true g = within_rounded true (n * b - a * d) (d * b) (mul-pos E B) (sum_short n d a b D c 1 fine l)
      go false false g = within_rounded false (n * b - a * d) (d * b) (mul-pos E B) (sum_short n d a b D c 2 fine (omega arith))

-- a size is at most 1
sized : (s : Bool) (x y : ℕ) → 2 * x ≤ limit s * y → x ≤ y
sized false x y h = omega arith
sized true x y h = omega arith

add_within : (t : Bool) (n : ℕ) (d : ℤ) (h : Float) (s : Bool) (D c : ℕ) → 0 < c → RateWithin (fin t n d) → Room t (n * up d) (down d) s D c
    → AtMost h s (D * fine + c) (c * fine) → RateWithin (add binary64 (fin t n d) h)
unfolding add
add_within t n d nan s D c C l r a = absurd a
add_within t n d (inf u) s D c C l r a = absurd a
add_within t n d (fin u m e) s D c C l r a =
    sum_within (n * up d) (down d) (m * up e) (down e) D c (down_pos d) (down_pos e) C a.1 t u l (subst (λ (z : Bool). Room t (n * up d) (down d) z D c) (sym a.0) r)

next_within : (t : Bool) (n : ℕ) (d : ℤ) (z : Float) → RateWithin (fin t n d) → Moves t (n * up d) (down d) z → RateWithin (add binary64 (fin t n d) (mul binary64 half z))
next_within t n d z l m =
    add_within t n d (mul binary64 half z) m.s m.D m.c m.least l m.room
    (rw m.is (halved m.s m.D m.c m.least 60 0 refl (omega (arith, m.most))))

-- x moves halfway toward y
pub halfway_within : (x y : Float) → RateWithin x → RateWithin y → RateWithin (add binary64 y (mul binary64 half (sub binary64 x y)))
unfolding sub add neg
halfway_within nan y h k = absurd h
halfway_within (inf s) y h k = absurd h
halfway_within (fin s m e) nan h k = absurd k
halfway_within (fin s m e) (inf t) h k = absurd k
halfway_within (fin s m e) (fin t n d) h k =
    next_within t n d (sub binary64 (fin s m e) (fin t n d)) k
    (difference (m * up e) (down e) (n * up d) (down d) (down_pos e) (down_pos d) (sized s (m * up e) (down e) h) (sized t (n * up d) (down d) k) s t h)
