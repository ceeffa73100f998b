-- What the rule of the average means: of all whole numbers just one is within a half of 100 × a / n and is even where it is a half away, and `nearest` is that one.
-- Zero stays zero, and an amount below zero has the average of its size with the sign changed. Assumes nothing.
use mathlib.Core.Path.{◌≡◌, refl, sym, ◌∙◌}
use mathlib.Core.Bool.{Bool, true, false, ◌&&◌, ◌||◌, cond}
use Prim.Native.Nat.{ℕ, zero, suc, ◌+◌, ◌*◌, ◌/◌, ◌%◌, ◌≤◌, ◌<◌}
use native.Mathlib.Nat.{div-add-mod, mod-lt, mul-add, mul-one, mul_comm, mul-le-mul_left}
use native.Mathlib.Omega.{arith}
use borrow.Author.Tests.{ltb-true, ltb-false, eqb-true, eqb-false}
use lib.Dec.{eqb, ltb}
use lib.IntN.{ℤ, pos, negsuc, neg_ℤ, neg_ℤ-neg_ℤ}
use Rattle.rules.specs.Triangle.{evenly, nearest, average_of}

-- m is at most a half from 100 × a / n, and even where it is a half from it
pub record Nearest (a n m : ℕ) : Type 0 where
  pub not_below : 200 * a ≤ 2 * (n * m) + n
  pub not_above : 2 * (n * m) ≤ 200 * a + n
  pub half_below : 200 * a ≡ 2 * (n * m) + n → m % 2 ≡ 0
  pub half_above : 2 * (n * m) ≡ 200 * a + n → m % 2 ≡ 0

module _ (a n : ℕ) (some : 1 ≤ n) where
  next : (w : ℕ) → n * (w + 1) ≡ n * w + n
  next w = mul-add n w 1 ∙ omega (arith, mul-one n)

  module _ (w s : ℕ) (split : n * w + s ≡ 100 * a) (part : s < n) where
    -- the whole below and the whole above, where they are near enough
    lower : 2 * s ≤ n → (2 * s ≡ n → w % 2 ≡ 0) → Nearest a n w
    lower l e = record { not_below = omega arith; not_above = omega arith; half_below = λ h. e (omega arith); half_above = λ h. absurd (omega arith) }

    upper : n ≤ 2 * s → (2 * s ≡ n → (w + 1) % 2 ≡ 0) → Nearest a n (w + 1)
    upper l e = record {
      not_below = omega (arith, next w);
      not_above = omega (arith, next w);
      half_below = λ h. absurd (omega (arith, next w));
      half_above = λ h. e (omega (arith, next w));
    }

    evenly_is : Nearest a n (evenly n w s)
    unfolding evenly
    evenly_is = go (ltb n (2 * s)) (eqb (2 * s) n) (eqb (w % 2) 1) refl refl refl
      where
        go : (b c d : Bool) → ltb n (2 * s) ≡ b → eqb (2 * s) n ≡ c → eqb (w % 2) 1 ≡ d → Nearest a n (cond (b || (c && d)) (w + 1) w)
        go true c d p q r = let l : n < 2 * s = ltb-true n (2 * s) p in upper (omega arith) (λ h. absurd (omega arith))
        go false true true p q r =
            let e : 2 * s ≡ n = eqb-true (2 * s) n q in
            let o : w % 2 ≡ 1 = eqb-true (w % 2) 1 r in
            upper (omega arith) (λ h. omega arith)
        go false true false p q r = lower (ltb-false n (2 * s) p) (λ h. omega (arith, eqb-false (w % 2) 1 r))
        go false false d p q r = lower (ltb-false n (2 * s) p) (λ h. absurd (eqb-false (2 * s) n q h))

  pub nearest_is : Nearest a n (nearest a n)
  unfolding nearest
  nearest_is = evenly_is (100 * a / n) (100 * a % n) (div-add-mod (100 * a) n) (mod-lt (100 * a) (omega arith))

  -- of two such numbers none is the less: they would be neighbours, and both even
  none_less : (m o : ℕ) → Nearest a n m → Nearest a n o → m < o → ⊥
  none_less m o h k l =
      let one : n * (m + 1) ≡ n * m + n = next m in
      let near : n * (m + 1) ≤ n * o = mul-le-mul_left n (omega arith) in
      let neighbour : o ≡ m + 1 = omega (arith, far) in
      let below : m % 2 ≡ 0 = h.half_below (omega (arith, h.not_below, k.not_above)) in
      let above : o % 2 ≡ 0 = k.half_above (omega (arith, h.not_below, k.not_above)) in
      omega arith
    where
      far : m + 2 ≤ o → ⊥
      far q =
          let two : n * (m + 2) ≡ n * m + 2 * n = mul-add n m 2 ∙ omega (arith, mul_comm n 2) in
          let wide : n * (m + 2) ≤ n * o = mul-le-mul_left n q in
          omega (arith, h.not_below, k.not_above)

  pub nearest_only : (m : ℕ) → Nearest a n m → m ≡ nearest a n
  nearest_only m h = omega (arith, none_less m (nearest a n) h nearest_is, none_less (nearest a n) m nearest_is h)

  -- zero stays zero
  pub nearest_zero : a ≡ 0 → nearest a n ≡ 0
  nearest_zero z = sym (nearest_only 0 (record { not_below = omega arith; not_above = omega arith; half_below = λ h. refl; half_above = λ h. refl }))

-- an average with the sign of its amount changed
pub average_negated : (p : ℤ) (n : ℕ) → 1 ≤ n → average_of (neg_ℤ p) n ≡ neg_ℤ (average_of p n)
unfolding average_of
average_negated (pos zero) n l = rw (nearest_zero 0 n l refl)
average_negated (pos (suc a)) n l = refl
average_negated (negsuc a) n l = sym (neg_ℤ-neg_ℤ (pos (nearest (suc a) n)))
