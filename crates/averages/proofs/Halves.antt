-- The nearest whole by one division: of 2 × 100 × a + n by 2 × n. Where nothing is left over there was a half, and of the quotient and the number below it the even
-- one is due. Assumes nothing.
use mathlib.Core.Path.{◌≡◌, refl, ap, ◌∙◌}
use mathlib.Core.Bool.{Bool, true, false, ◌&&◌, ◌||◌, cond}
use Prim.Native.Nat.{ℕ, ◌+◌, ◌-◌, ◌*◌, ◌/◌, ◌%◌, ◌≤◌, ◌<◌}
use native.Mathlib.Nat.{div-add-mod, mod-lt, mul-add-div, mul-add-mod_self_left, div-eq_of_lt, mod-eq_of_lt, mul_assoc, mul-add, mul-one}
use native.Mathlib.Omega.{arith}
use borrow.Author.Tests.{eq-eqb, ne_eqb, le-ltb, ltb-true, ltb-false, eqb-true, eqb-false}
use lib.Dec.{eqb, ltb}
use Rattle.rules.specs.Triangle.{evenly, nearest}

-- a number of d-ths with a rest: its quotient and its remainder
quotient_of : (d q r : ℕ) → r < d → (d * q + r) / d ≡ q
quotient_of d q r h = mul-add-div {m = d} (omega arith) q r ∙ omega (arith, div-eq_of_lt h)

remainder_of : (d q r : ℕ) → r < d → (d * q + r) % d ≡ r
remainder_of d q r h = mul-add-mod_self_left d q r ∙ mod-eq_of_lt h

-- 100 × a as n × w + s: the dividend, where the rest s is below a half, and from a half on
module _ (a n w s : ℕ) (split : n * w + s ≡ 100 * a) (part : s < n) where
  less : 200 * a + n ≡ 2 * n * w + (2 * s + n)
  less = let m : 2 * n * w ≡ 2 * (n * w) = mul_assoc 2 n w in omega arith

  more : n ≤ 2 * s → 200 * a + n ≡ 2 * n * (w + 1) + (2 * s - n)
  more h =
      let m : 2 * n * (w + 1) ≡ 2 * n * w + 2 * n * 1 = mul-add (2 * n) w 1 in
      let o : 2 * n * 1 ≡ 2 * n = mul-one (2 * n) in
      omega (arith, less)

  -- the remainder is 0 for a half alone
  half : (200 * a + n) % (2 * n) ≡ 0 → 2 * s ≡ n
  half h = go (ltb (2 * s) n) refl
    where
      go : (b : Bool) → ltb (2 * s) n ≡ b → 2 * s ≡ n
      go true e =
          let l : 2 * s < n = ltb-true (2 * s) n e in
          omega (arith, ap (λ (t : ℕ). t % (2 * n)) less, remainder_of (2 * n) w (2 * s + n) (omega arith))
      go false e =
          let l : n ≤ 2 * s = ltb-false (2 * s) n e in
          omega (arith, ap (λ (t : ℕ). t % (2 * n)) (more l), remainder_of (2 * n) (w + 1) (2 * s - n) (omega arith))

  -- for a half it is 0, and the quotient is the neighbour above
  half_remainder : 2 * s ≡ n → (200 * a + n) % (2 * n) ≡ 0
  half_remainder e = ap (λ (t : ℕ). t % (2 * n)) (more (omega arith)) ∙ remainder_of (2 * n) (w + 1) (2 * s - n) (omega arith) ∙ omega arith

  half_quotient : 2 * s ≡ n → (200 * a + n) / (2 * n) ≡ w + 1
  half_quotient e = ap (λ (t : ℕ). t / (2 * n)) (more (omega arith)) ∙ quotient_of (2 * n) (w + 1) (2 * s - n) (omega arith)

  -- with a remainder the quotient is the nearest whole
  pub apart : 0 < (200 * a + n) % (2 * n) → (200 * a + n) / (2 * n) ≡ evenly n w s
  unfolding evenly
  apart h = go (ltb n (2 * s)) refl
    where
      other : 2 * s ≡ n → ⊥
      other e = absurd (omega (arith, half_remainder e))

      go : (b : Bool) → ltb n (2 * s) ≡ b → (200 * a + n) / (2 * n) ≡ cond (b || (eqb (2 * s) n && eqb (w % 2) 1)) (w + 1) w
      go true e =
          let l : n < 2 * s = ltb-true n (2 * s) e in
          ap (λ (t : ℕ). t / (2 * n)) (more (omega arith)) ∙ quotient_of (2 * n) (w + 1) (2 * s - n) (omega arith)
      go false e =
          let l : 2 * s ≤ n = ltb-false n (2 * s) e in
          let r : 2 * s + n < 2 * n = omega (arith, other) in
          rw (ne_eqb (2 * s) n other) (ap (λ (t : ℕ). t / (2 * n)) less ∙ quotient_of (2 * n) w (2 * s + n) r)

  -- without one there was a half: of the quotient and the number below it the even one
  pub even : (200 * a + n) % (2 * n) ≡ 0 → (200 * a + n) / (2 * n) - (200 * a + n) / (2 * n) % 2 ≡ evenly n w s
  unfolding evenly
  even h =
      let e : 2 * s ≡ n = half h in
      rw (half_quotient e, le-ltb n (2 * s) (omega arith), eq-eqb (2 * s) n e) (go (eqb (w % 2) 1) refl)
    where
      go : (b : Bool) → eqb (w % 2) 1 ≡ b → w + 1 - (w + 1) % 2 ≡ cond b (w + 1) w
      go true e = omega (arith, eqb-true (w % 2) 1 e)
      go false e = omega (arith, eqb-false (w % 2) 1 e)

-- the nearest whole is never above the quotient
pub nearest_least : (a n : ℕ) → 1 ≤ n → nearest a n ≤ (200 * a + n) / (2 * n)
unfolding nearest
nearest_least a n l = go (eqb ((200 * a + n) % (2 * n)) 0) refl
  where
    split : n * (100 * a / n) + 100 * a % n ≡ 100 * a
    split = div-add-mod (100 * a) n

    part : 100 * a % n < n
    part = mod-lt (100 * a) (omega arith)

    go : (b : Bool) → eqb ((200 * a + n) % (2 * n)) 0 ≡ b → evenly n (100 * a / n) (100 * a % n) ≤ (200 * a + n) / (2 * n)
    go true e = omega (arith, even a n (100 * a / n) (100 * a % n) split part (eqb-true ((200 * a + n) % (2 * n)) 0 e))
    go false e = omega (arith, apart a n (100 * a / n) (100 * a % n) split part (omega (arith, eqb-false ((200 * a + n) % (2 * n)) 0 e)))
