-- The printed running shares and shares against the exact ones: no running share is above its exact one, and each step down adds less than one
-- billionth to what it is below. Assumes nothing.
use mathlib.Core.Path.{◌≡◌, ap, subst}
use Prim.Native.Nat.{ℕ, zero, suc, ◌+◌, ◌*◌, ◌-◌, ◌/◌, ◌≤◌, ◌<◌}
use native.Mathlib.Nat.{le_of_lt, mul-le-mul_right, mul-le-mul_left, mul-lt-mul_of_pos_right, le_of_mul-le-mul_right, lt_of_mul-lt-mul_right, div-mul-le_self, lt-div-mul-add}
use native.Mathlib.Omega.{arith}
use Rattle.rules.specs.Lists.{total, up_to}
use Rattle.laws.proofs.Totals.{total_none, total_more}
use Rattle.totals.proofs.Whole.{Totals}
use Rattle.accuracy.proofs.Pairs.{Pairs, Exact, exact, sign}

-- the printed running shares A and shares r
pub record Running (k S : ℕ) (v T A r : ℕ → ℕ) : Type 0 where
  pub top : A k ≡ S
  pub down : (h : ℕ) → h < k → A h ≡ A (suc h) * (T (suc h) - v (suc h)) / T (suc h)
  pub first : r 0 ≡ A 0
  pub next : (h : ℕ) → r (suc h) ≡ A (suc h) - A h

module _ (k S : ℕ) (v d T A r : ℕ → ℕ) (tot : Totals k v d T) (run : Running k S v T A r) where
  pub T-pos : (h : ℕ) → h < k → 0 < T (suc h)
  T-pos h lt = omega (arith, tot.less h lt)

  pub floor_low : (h : ℕ) → h < k → A h * T (suc h) ≤ A (suc h) * (T (suc h) - v (suc h))
  floor_low h lt = rw (run.down h lt) (div-mul-le_self _ _)

  pub floor_high : (h : ℕ) → h < k → A (suc h) * (T (suc h) - v (suc h)) < A h * T (suc h) + T (suc h)
  floor_high h lt = rw (run.down h lt) (lt-div-mul-add (T-pos h lt))

  -- the running shares rise with the year
  pub rises : (h : ℕ) → h < k → A h ≤ A (suc h)
  rises h lt =
      let less : T (suc h) - v (suc h) ≤ T (suc h) = omega arith in
      le_of_mul-le-mul_right {k = T (suc h)} (omega (arith, floor_low h lt, mul-le-mul_left (A (suc h)) less)) (T-pos h lt)

  -- the running share is the sum of the shares
  pub shares_sum : (h : ℕ) → h ≤ k → total (up_to r (suc h)) ≡ A h
  shares_sum zero le = omega (arith, total_more r 0, total_none r, run.first)
  shares_sum (suc h) le = omega (arith, total_more r (suc h), shares_sum h (omega arith), run.next h, rises h le)

-- one year down, in whole numbers: P exact and A printed, with a prime at year h + 1
step_low : (S D P P' A A' T q : ℕ) → 0 < T → P * T ≡ P' * q → A * T ≤ A' * q → A' * D ≤ S * P' → A * D ≤ S * P
step_low S D P P' A A' T q t e a h =
    le_of_mul-le-mul_right {k = T} (omega (arith, mul-le-mul_right D a, mul-le-mul_right q h, ap (λ (x : ℕ). S * x) e)) t

step_high : (S D P P' A A' T q n : ℕ) → 0 < D → q ≤ T → P * T ≡ P' * q → A' * q < A * T + T → S * P' ≤ A' * D + n * D → S * P < A * D + suc n * D
step_high S D P P' A A' T q n dp qt e a h =
    lt_of_mul-lt-mul_right T
    (omega (arith, mul-lt-mul_of_pos_right a dp, mul-le-mul_right q h, mul-le-mul_left (n * D) qt, ap (λ (x : ℕ). S * x) e))

-- a share p − q that takes P to P' beside the printed A' − A
share_step : (S D P P' p q A A' r n N : ℕ) → 0 < D → P + p ≡ P' + q → A' ≡ A + r → N ≡ suc n →
    A * D ≤ S * P → A' * D ≤ S * P' → S * P < A * D + suc n * D → S * P' ≤ A' * D + n * D →
    (S * p < S * q + r * D + N * D) × (S * q + r * D < S * p + N * D)
share_step S D P P' p q A A' r n N Dp e f g lo lo' hi hi' = (
  omega (arith, ap (λ (z : ℕ). S * z) e, ap (λ (z : ℕ). z * D) f, ap (λ (z : ℕ). z * D) g),
  omega (arith, ap (λ (z : ℕ). S * z) e, ap (λ (z : ℕ). z * D) f, ap (λ (z : ℕ). z * D) g),
)

first_step : (S D P p q A r n N : ℕ) → 0 < D → p ≡ P + q → r ≡ A → N ≡ suc n → A * D ≤ S * P → S * P ≤ A * D + n * D →
    (S * p < S * q + r * D + N * D) × (S * q + r * D < S * p + N * D)
first_step S D P p q A r n N Dp e f g lo hi = (
  omega (arith, ap (λ (z : ℕ). S * z) e, ap (λ (z : ℕ). z * D) f, ap (λ (z : ℕ). z * D) g),
  omega (arith, ap (λ (z : ℕ). S * z) e, ap (λ (z : ℕ). z * D) f, ap (λ (z : ℕ). z * D) g),
)

module _ (k S D : ℕ) (v d T P A r : ℕ → ℕ) (Dp : 0 < D) (tot : Totals k v d T) (x : Exact k D v T P) (run : Running k S v T A r) where
  -- a printed running share is not above its exact one
  below : (n h : ℕ) → h + n ≡ k → A h * D ≤ S * P h
  below zero h e = let eh : k ≡ h = omega arith in subst (λ (z : ℕ). A z * D ≤ S * P z) eh (rw (run.top, x.top) (omega arith))
  below (suc n) h e =
      let lt : h < k = omega arith in
      step_low S D (P h) (P (suc h)) (A h) (A (suc h)) (T (suc h)) (T (suc h) - v (suc h)) (T-pos k S v d T A r tot run h lt)
      (x.ratio h lt) (floor_low k S v d T A r tot run h lt) (below n (suc h) (omega arith))

  above_next : (n h : ℕ) → h + suc n ≡ k → S * P (suc h) ≤ A (suc h) * D + n * D → S * P h < A h * D + suc n * D
  above_next n h e i =
      let lt : h < k = omega arith in
      step_high S D (P h) (P (suc h)) (A h) (A (suc h)) (T (suc h)) (T (suc h) - v (suc h)) n Dp (omega arith)
      (x.ratio h lt) (floor_high k S v d T A r tot run h lt) i

  -- an exact running share is at most k − h billionths above the printed one
  above : (n h : ℕ) → h + n ≡ k → S * P h ≤ A h * D + n * D
  above zero h e = let eh : k ≡ h = omega arith in subst (λ (z : ℕ). S * P z ≤ A z * D + 0 * D) eh (rw (run.top, x.top) (omega arith))
  above (suc n) h e = le_of_lt (above_next n h e (above n (suc h) (omega arith)))

  share_zero : (p q : ℕ) → p ≡ P 0 + q → (S * p < S * q + r 0 * D + (suc k - 0) * D) × (S * q + r 0 * D < S * p + (suc k - 0) * D)
  share_zero p q e = first_step S D (P 0) p q (A 0) (r 0) k (suc k - 0) Dp e run.first (omega arith) (below k 0 (omega arith)) (above k 0 (omega arith))

  share_suc : (h p q : ℕ) → h < k → P h + p ≡ P (suc h) + q →
      (S * p < S * q + r (suc h) * D + (suc k - suc h) * D) × (S * q + r (suc h) * D < S * p + (suc k - suc h) * D)
  share_suc h p q lt e =
      share_step S D (P h) (P (suc h)) p q (A h) (A (suc h)) (r (suc h)) (k - suc h) (suc k - suc h) Dp e
      (omega (arith, run.next h, rises k S v d T A r tot run h lt)) (omega arith)
      (below (k - h) h (omega arith)) (below (k - suc h) (suc h) (omega arith))
      (above_next (k - suc h) h (omega arith) (above (k - suc h) (suc h) (omega arith))) (above (k - suc h) (suc h) (omega arith))

-- every printed share is less than k − j + 1 billionths away from that of a solution
pub shares : (k S D E : ℕ) (v d T a b l m A r : ℕ → ℕ) → Totals k v d T → Pairs k D E v d a b l m → Running k S v T A r → (j : ℕ) → j ≤ k →
    (S * a j < S * b j + r j * D + (suc k - j) * D) × (S * b j + r j * D < S * a j + (suc k - j) * D)
shares k S D E v d T a b l m A r tot s run zero le =
    share_zero k S D v d T _ A r s.shares tot (exact k D E v d T a b l m tot s) run (a 0) (b 0)
    (omega (arith, sign k D E v d T a b l m tot s 0 le, total_more a 0, total_more b 0, total_none a, total_none b))
shares k S D E v d T a b l m A r tot s run (suc h) le =
    share_suc k S D v d T _ A r s.shares tot (exact k D E v d T a b l m tot s) run h (a (suc h)) (b (suc h)) le
    (omega (arith, sign k D E v d T a b l m tot s h (omega arith), sign k D E v d T a b l m tot s (suc h) le, total_more a (suc h), total_more b (suc h)))
