-- A rounded fraction with either sign: a float that bounds the fraction bounds what it is rounded to. Assumes nothing.
use mathlib.Core.Path.{◌≡◌, sym, ap, subst}
use mathlib.Core.Bool.{Bool, true, false, ◌&&◌, ◌||◌, cond, true≢false}
use Prim.Native.Nat.{ℕ, suc, ◌+◌, ◌-◌, ◌*◌, ◌/◌, ◌%◌, ◌^◌, ◌≤◌, ◌<◌, compare}
use native.Mathlib.Nat.{le_of_lt, le_of_eq, mul-le-mul_right, le_of_mul-le-mul_right}
use native.Mathlib.Omega.{arith}
use lib.Dec.{T, ltb, eqb, ltb→lt, eqb→eq}
use lib.Pow.{pow_pos}
use lib.Ieee.{Float, nan, inf, fin, Format, prec, emax, low, up, down, size, nearest, odd, units, round, le}
use lib.Ieee.Fits.{down_pos, round_is}
use lib.Ieee.Exact.{HasValue, odd_sign}
use lib.Ieee.Order.{transfer, round_mono}

-- x is finite, has the sign s, and is at most p / q in size
abbrev pub AtMost : Float → Bool → ℕ → ℕ → Type 0
AtMost nan s p q = ⊥
AtMost (inf t) s p q = ⊥
AtMost (fin t m e) s p q = (t ≡ s) × (m * up e * q ≤ p * down e)

-- by a fraction a / c that is at most p / q: x equals it
value_most : (x : Float) (s : Bool) (a c p q : ℕ) → 0 < c → HasValue x s a c → a * q ≤ p * c → AtMost x s p q
value_most nan s a c p q l v h = absurd v
value_most (inf t) s a c p q l v h = absurd v
value_most (fin t m e) s a c p q l v h = (v.0, le_of_mul-le-mul_right {k = c} (omega (arith, ap (λ (z : ℕ). z * q) v.1, mul-le-mul_right (down e) h)) l)

-- or x is at most it
pub most_more : (x : Float) (s : Bool) (a c p q : ℕ) → 0 < c → AtMost x s a c → a * q ≤ p * c → AtMost x s p q
most_more nan s a c p q l v h = absurd v
most_more (inf t) s a c p q l v h = absurd v
most_more (fin t m e) s a c p q l v h = (v.0, le_of_mul-le-mul_right {k = c} (omega (arith, mul-le-mul_right q v.1, mul-le-mul_right (down e) h)) l)

-- what a comparison says, of two numbers that are not negative
below_or_level : (a b : ℕ) (t : Bool) → T (ltb a b || (eqb a b && t)) → a ≤ b
below_or_level a b t h = go (ltb a b) (eqb a b) (ltb→lt a b) (eqb→eq a b) h
  where
    go : (c d : Bool) → (T c → a < b) → (T d → a ≡ b) → T (c || (d && t)) → a ≤ b
    go true d f g k = le_of_lt (f tt)
    go false true f g k = le_of_eq (g tt)
    go false false f g k = absurd k

-- and of two floats by fractions that they equal
le_values : (x y : Float) (a c b d : ℕ) → HasValue x false a c → HasValue y false b d → T (le x y) → a * d ≤ b * c
unfolding le
le_values nan y a c b d v w h = absurd v
le_values (inf s) y a c b d v w h = absurd v
le_values (fin true m e) y a c b d v w h = absurd (true≢false v.0)
le_values (fin false m e) nan a c b d v w h = absurd w
le_values (fin false m e) (inf t) a c b d v w h = absurd w
le_values (fin false m e) (fin true n k) a c b d v w h = absurd (true≢false w.0)
le_values (fin false m e) (fin false n k) a c b d v w h =
    transfer a b c d (m * up e) (n * up k) (down e) (down k) (down_pos e) (down_pos k) (sym v.1) (sym w.1)
    (below_or_level (m * up e * down k) (n * up k * down e) true h)

-- no infinity is below a float
no_infinity : (z : Float) (a c : ℕ) → HasValue z false a c → T (le (inf false) z) → ⊥
unfolding le
no_infinity nan a c v h = v
no_infinity (inf s) a c v h = v
no_infinity (fin s m e) a c v h = h

module _ (f : Format) (s : Bool) where
  units_most : (q k : ℕ) (z : Float) (a c : ℕ) → HasValue z false a c → T (le (units f false q k) z) → AtMost (units f s q k) s a c
  unfolding units
  units_most q k z a c v h = go (ltb (q * 2 ^ k) (2 ^ (low f + suc (emax f)))) h
    where
      go : (b : Bool) → T (le (cond b (odd (suc (prec f)) false q k (low f)) (inf false)) z)
          → AtMost (cond b (odd (suc (prec f)) s q k (low f)) (inf s)) s a c
      go true h =
          value_most (odd (suc (prec f)) s q k (low f)) s (q * 2 ^ k) (2 ^ low f) a c (pow_pos (low f)) (odd_sign (suc (prec f)) s q k (low f))
          (le_values (odd (suc (prec f)) false q k (low f)) z (q * 2 ^ k) (2 ^ low f) a c (odd_sign (suc (prec f)) false q k (low f)) v h)
      go false h = absurd (no_infinity z a c v h)

  -- a / b is at most p / q, which is rounded to c / d
  pub round_most : (a b p q c d : ℕ) → 0 < b → 0 < q → a * q ≤ p * b → HasValue (round f false p q) false c d → AtMost (round f s a b) s c d
  round_most a b p q c d B Q h v =
      let n = a * 2 ^ low f in
      let k = size (n / b) - prec f in
      let u = b * 2 ^ k in
      subst (λ (x : Float). AtMost x s c d) (sym (round_is f s a b))
      (units_most (nearest (n / u) (compare (n % u * 2) u)) k (round f false p q) c d v
      (subst (λ (x : Float). T (le x (round f false p q))) (round_is f false a b) (round_mono f a b p q B Q h)))
