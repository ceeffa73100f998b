-- The printed shares and levels beside the observed totals: no fitted diagonal is above the observed one nor a hundredth or more below, and
-- each fitted column is near the observed one. Assumes nothing.
use mathlib.Core.Path.{◌≡◌, sym, ◌∙◌, ap, subst}
use Prim.Native.Nat.{ℕ, zero, suc, ◌+◌, ◌*◌, ◌-◌, ◌/◌, ◌≤◌, ◌<◌}
use native.Mathlib.Nat.{mul-div_cancel, le_refl, mul-le-mul_right, mul-le-mul_left, le_of_mul-le-mul_right, div-mul-le_self, lt-div-mul-add}
use native.Mathlib.Omega.{arith}
use Rattle.rules.specs.Exact.{from_to}
use Rattle.laws.proofs.Totals.{from_to_one, from_to_first}
use Rattle.totals.proofs.Whole.{Totals}
use Rattle.accuracy.proofs.Rounding.{Running, T-pos, floor_low, floor_high, rises}

-- the printed levels l over the running shares A, which are from 1 to S
pub record Levels (k S : ℕ) (d A l : ℕ → ℕ) : Type 0 where
  pub some : (h : ℕ) → h ≤ k → 0 < A h
  pub most : (h : ℕ) → h ≤ k → A h ≤ S
  pub level : (h : ℕ) → h ≤ k → l h ≡ d h * S / A h

-- A_h × (l_{h+1} + .. + l_k) and A_h × (l_h + .. + l_k) are not above S × (T_{h+1} − v_{h+1}) and S × T_h, where so it is at h + 1, marked by a prime
low_step : (S A A' T T' q' d l L L' : ℕ) → 0 < T' → L ≡ l + L' → T ≡ q' + d →
    A * T' ≤ A' * q' → l * A ≤ d * S → A' * L' ≤ S * T' → (A * L' ≤ S * q') × (A * L ≤ S * T)
low_step S A A' T T' q' d l L L' t eL eT f g i = (rest, rw (eL, eT) (omega (arith, rest)))
  where
    rest : A * L' ≤ S * q'
    rest = le_of_mul-le-mul_right {k = T'} (omega (arith, mul-le-mul_right L' f, mul-le-mul_right q' i)) t

-- and they are below by no more than this, where at h + 1 it is by no more than e
high_step : (S A A' T T' q' d l L L' e : ℕ) → 0 < T' → q' ≤ T' → L ≡ l + L' → T ≡ q' + d →
    A' * q' < A * T' + T' → d * S < l * A + S → S * T' ≤ A' * L' + e → (S * q' ≤ A * L' + (e + L')) × (S * T ≤ A * L + (e + L' + S))
high_step S A A' T T' q' d l L L' e t qt eL eT f g i = (rest, rw (eL, eT) (omega (arith, rest)))
  where
    rest : S * q' ≤ A * L' + (e + L')
    rest = le_of_mul-le-mul_right {k = T'} (omega (arith, mul-le-mul_right (suc L') f, mul-le-mul_right L' f, mul-le-mul_right q' i, mul-le-mul_left e qt)) t

wider : (S n l L L' A T : ℕ) → L ≡ l + L' → S * T ≤ A * L + (n * (S + L') + L' + S) → S * T ≤ A * L + suc n * (S + L)
wider S n l L L' A T e h = let w : L' ≤ L = omega arith in omega (arith, mul-le-mul_left n w)

column_first : (S k T v A r L N : ℕ) → T ≡ v → r ≡ A → N ≡ suc k → A * L ≤ S * T → S * T ≤ A * L + k * (S + L) →
    (r * L ≤ v * S + N * (S + L)) × (v * S ≤ r * L + N * (S + L))
column_first S k T v A r L N eT er eN a b = rw (← eT, er, eN) (omega arith, omega arith)

column_step : (S n T' q' v' A A' r L' N : ℕ) → T' ≡ q' + v' → A' ≡ A + r → N ≡ suc n →
    A' * L' ≤ S * T' → S * T' ≤ A' * L' + n * (S + L') → A * L' ≤ S * q' → S * q' ≤ A * L' + (n * (S + L') + L') →
    (r * L' ≤ v' * S + N * (S + L')) × (v' * S ≤ r * L' + N * (S + L'))
column_step S n T' q' v' A A' r L' N eT eA eN a b c f = (
  omega (arith, ap (λ (z : ℕ). S * z) eT, ap (λ (z : ℕ). z * L') eA, ap (λ (z : ℕ). z * (S + L')) eN),
  omega (arith, ap (λ (z : ℕ). S * z) eT, ap (λ (z : ℕ). z * L') eA, ap (λ (z : ℕ). z * (S + L')) eN),
)

module _ (k S : ℕ) (v d T A r l : ℕ → ℕ) (tot : Totals k v d T) (run : Running k S v T A r) (lev : Levels k S d A l) where
  -- diagonals
  pub diagonal_low : (h : ℕ) → h ≤ k → l h * A h ≤ d h * S
  diagonal_low h le = rw (lev.level h le) (div-mul-le_self _ _)

  pub diagonal_high : (h : ℕ) → h ≤ k → d h * S < l h * A h + S
  diagonal_high h le =
      let f : d h * S < l h * A h + A h = rw (lev.level h le) (lt-div-mul-add (lev.some h le)) in
      omega (arith, lev.most h le)

  -- the levels from h on
  L : ℕ → ℕ
  L h = from_to l h k

  level_top : l k ≡ T k
  level_top =
      let p : 0 < S = omega (arith, run.top, lev.some k (le_refl k)) in
      lev.level k (le_refl k) ∙ rw run.top (mul-div_cancel (d k) p) ∙ sym tot.last

  T-is : (h : ℕ) → h < k → T h ≡ T (suc h) - v (suc h) + d h
  T-is h lt = omega (arith, tot.less h lt, tot.down h lt)

  low : (h : ℕ) → h < k → A (suc h) * L (suc h) ≤ S * T (suc h) → (A h * L (suc h) ≤ S * (T (suc h) - v (suc h))) × (A h * L h ≤ S * T h)
  unfolding L
  low h lt i =
      low_step S (A h) (A (suc h)) (T h) (T (suc h)) (T (suc h) - v (suc h)) (d h) (l h) (L h) (L (suc h)) (T-pos k S v d T A r tot run h lt)
      (from_to_first l h k lt) (T-is h lt) (floor_low k S v d T A r tot run h lt) (diagonal_low h (omega arith)) i

  near_low : (n h : ℕ) → h + n ≡ k → A h * L h ≤ S * T h
  unfolding L
  near_low zero h e =
      let eh : k ≡ h = omega arith in
      subst (λ (z : ℕ). A z * L z ≤ S * T z) eh (rw (from_to_one l k, level_top, run.top) (le_refl _))
  near_low (suc n) h e = (low h (omega arith) (near_low n (suc h) (omega arith))).1

  high : (h e : ℕ) → h < k → S * T (suc h) ≤ A (suc h) * L (suc h) + e →
      (S * (T (suc h) - v (suc h)) ≤ A h * L (suc h) + (e + L (suc h))) × (S * T h ≤ A h * L h + (e + L (suc h) + S))
  unfolding L
  high h e lt i =
      high_step S (A h) (A (suc h)) (T h) (T (suc h)) (T (suc h) - v (suc h)) (d h) (l h) (L h) (L (suc h)) e (T-pos k S v d T A r tot run h lt) (omega arith)
      (from_to_first l h k lt) (T-is h lt) (floor_high k S v d T A r tot run h lt) (diagonal_high h (omega arith)) i

  near_high : (n h : ℕ) → h + n ≡ k → S * T h ≤ A h * L h + n * (S + L h)
  unfolding L
  near_high zero h e =
      let eh : k ≡ h = omega arith in
      subst (λ (z : ℕ). S * T z ≤ A z * L z + 0 * (S + L z)) eh (rw (from_to_one l k, level_top, run.top) (omega arith))
  near_high (suc n) h e =
      let lt : h < k = omega arith in
      wider S n (l h) (L h) (L (suc h)) (A h) (T h) (from_to_first l h k lt) (high h (n * (S + L (suc h))) lt (near_high n (suc h) (omega arith))).1

  -- columns
  pub column_near : (j : ℕ) → j ≤ k →
      (r j * from_to l j k ≤ v j * S + (suc k - j) * (S + from_to l j k)) × (v j * S ≤ r j * from_to l j k + (suc k - j) * (S + from_to l j k))
  unfolding L
  column_near zero le =
      column_first S k (T 0) (v 0) (A 0) (r 0) (L 0) (suc k - 0) tot.first run.first (omega arith)
      (near_low k 0 (omega arith)) (near_high k 0 (omega arith))
  column_near (suc h) le =
      column_step S (k - suc h) (T (suc h)) (T (suc h) - v (suc h)) (v (suc h)) (A h) (A (suc h)) (r (suc h)) (L (suc h)) (suc k - suc h)
      (omega (arith, tot.less h le)) (omega (arith, run.next h, rises k S v d T A r tot run h le)) (omega arith)
      (near_low (k - suc h) (suc h) (omega arith)) (near_high (k - suc h) (suc h) (omega arith))
      (low h le (near_low (k - suc h) (suc h) (omega arith))).0
      (high h ((k - suc h) * (S + L (suc h))) le (near_high (k - suc h) (suc h) (omega arith))).0
