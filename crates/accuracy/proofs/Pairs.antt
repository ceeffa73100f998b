-- An exact solution with numerators as differences of whole numbers: its running shares are whole numbers, fall by T_h − v_h over T_h, and no
-- share is negative. Assumes nothing.
use mathlib.Core.Path.{◌≡◌, ap, subst}
use Prim.Native.Nat.{ℕ, zero, suc, ◌+◌, ◌*◌, ◌-◌, ◌≤◌, ◌<◌}
use native.Mathlib.Nat.{mul-le-mul_right, mul-le-mul_left, le_of_mul-le-mul_right, mul-pos, eq_of_mul-eq-mul_right}
use native.Mathlib.Omega.{arith}
use Rattle.rules.specs.Lists.{total, up_to}
use Rattle.rules.specs.Exact.{from_to}
use Rattle.laws.proofs.Totals.{total_none, total_more, from_to_one, from_to_first}
use Rattle.totals.proofs.Whole.{Totals}

-- a solution: share numerators a − b over D, level numerators l − m over E
pub record Pairs (k D E : ℕ) (v d a b l m : ℕ → ℕ) : Type 0 where
  pub shares : 0 < D
  pub levels : 0 < E
  pub whole : total (up_to a (suc k)) ≡ D + total (up_to b (suc k))
  pub diagonal : (h : ℕ) → h ≤ k →
      l h * total (up_to a (suc h)) + m h * total (up_to b (suc h)) ≡ d h * (D * E) + (l h * total (up_to b (suc h)) + m h * total (up_to a (suc h)))
  pub column : (j : ℕ) → j ≤ k → a j * from_to l j k + b j * from_to m j k ≡ v j * (D * E) + (a j * from_to m j k + b j * from_to l j k)

-- the running shares of a solution, as whole numbers over D
pub record Exact (k D : ℕ) (v T P : ℕ → ℕ) : Type 0 where
  pub top : P k ≡ D
  pub ratio : (h : ℕ) → h < k → P h * T (suc h) ≡ P (suc h) * (T (suc h) - v (suc h))

-- A_h × (l_h + .. + l_k) is T_h: one year down. A is (x − y) / D, the levels are u − w over E, F is D × E, and a prime stands for year h + 1
product_step : (x y x' y' a' b' u w u' w' l m T T' v' d F : ℕ) →
    x' ≡ x + a' → y' ≡ y + b' → u ≡ l + u' → w ≡ m + w' →
    T + v' ≡ T' + d →
    x' * u' + y' * w' ≡ T' * F + (x' * w' + y' * u') →
    a' * u' + b' * w' ≡ v' * F + (a' * w' + b' * u') →
    l * x + m * y ≡ d * F + (l * y + m * x) →
    x * u + y * w ≡ T * F + (x * w + y * u)
product_step x y x' y' a' b' u w u' w' l m T T' v' d F ex ey eu ew et p c g =
    rw (eu, ew) (omega (arith, ap (λ (z : ℕ). z * F) et, rw (ex, ey) at p))

-- A_h × (l_{h+1} + .. + l_k) is T_{h+1} − v_{h+1}
rest_step : (x y x' y' a' b' u' w' T' v' q' F : ℕ) →
    x' ≡ x + a' → y' ≡ y + b' → T' ≡ q' + v' →
    x' * u' + y' * w' ≡ T' * F + (x' * w' + y' * u') →
    a' * u' + b' * w' ≡ v' * F + (a' * w' + b' * u') →
    x * u' + y * w' ≡ q' * F + (x * w' + y * u')
rest_step x y x' y' a' b' u' w' T' v' q' F ex ey et p c = omega (arith, ap (λ (z : ℕ). z * F) et, rw (ex, ey) at p)

-- A_h × T_{h+1} is A_{h+1} × (T_{h+1} − v_{h+1}), once F is cancelled
ratio_step : (x y x' y' u' w' T' q' F : ℕ) → 0 < F →
    x' * u' + y' * w' ≡ T' * F + (x' * w' + y' * u') →
    x * u' + y * w' ≡ q' * F + (x * w' + y * u') →
    x * T' + y' * q' ≡ x' * q' + y * T'
ratio_step x y x' y' u' w' T' q' F f p c =
    eq_of_mul-eq-mul_right F f _ _
    (omega (arith, ap (λ (z : ℕ). x * z) p, ap (λ (z : ℕ). y * z) p, ap (λ (z : ℕ). x' * z) c, ap (λ (z : ℕ). y' * z) c))

-- where A_{h+1} is not negative, neither is A_h
sign_step : (x y x' y' T' q' : ℕ) → 0 < T' → x * T' + y' * q' ≡ x' * q' + y * T' → y' ≤ x' → y ≤ x
sign_step x y x' y' T' q' t e s = le_of_mul-le-mul_right {k = T'} (omega (arith, mul-le-mul_right q' s)) t

-- the ratio of the whole numbers p = x − y
whole_step : (x y x' y' p p' T' q' : ℕ) → x * T' + y' * q' ≡ x' * q' + y * T' → x ≡ y + p → x' ≡ y' + p' → p * T' ≡ p' * q'
whole_step x y x' y' p p' T' q' e s s' = omega (arith, ap (λ (z : ℕ). z * T') s, ap (λ (z : ℕ). z * q') s')

module _ (k D E : ℕ) (v d T a b l m : ℕ → ℕ) (tot : Totals k v d T) (s : Pairs k D E v d a b l m) where
  -- the running share is X − Y over D, the sum of the levels from h on U − W over E
  X : ℕ → ℕ
  X h = total (up_to a (suc h))

  Y : ℕ → ℕ
  Y h = total (up_to b (suc h))

  U : ℕ → ℕ
  U h = from_to l h k

  W : ℕ → ℕ
  W h = from_to m h k

  ProductAt : ℕ → Type 0
  ProductAt h = X h * U h + Y h * W h ≡ T h * (D * E) + (X h * W h + Y h * U h)

  product_top : ProductAt k
  unfolding ProductAt X Y U W
  product_top = rw (from_to_one l k, from_to_one m k) (omega (arith, ap (λ (z : ℕ). z * (D * E)) tot.last, s.diagonal k (omega arith)))

  product_all : (n h : ℕ) → h + n ≡ k → ProductAt h
  unfolding ProductAt X Y U W
  product_all zero h e = let eh : k ≡ h = omega arith in subst (λ (z : ℕ). ProductAt z) eh product_top
  product_all (suc n) h e =
      let lt : h < k = omega arith in
      product_step (X h) (Y h) (X (suc h)) (Y (suc h)) (a (suc h)) (b (suc h)) (U h) (W h) (U (suc h))
      (W (suc h)) (l h) (m h) (T h) (T (suc h)) (v (suc h)) (d h) (D * E)
      (total_more a (suc h)) (total_more b (suc h)) (from_to_first l h k lt) (from_to_first m h k lt)
      (tot.down h lt)
      (product_all n (suc h) (omega arith))
      (s.column (suc h) (omega arith))
      (s.diagonal h (omega arith))

  T-pos : (h : ℕ) → h < k → 0 < T (suc h)
  T-pos h lt = omega (arith, tot.less h lt)

  ratio_all : (n h : ℕ) → h + suc n ≡ k → X h * T (suc h) + Y (suc h) * (T (suc h) - v (suc h)) ≡ X (suc h) * (T (suc h) - v (suc h)) + Y h * T (suc h)
  unfolding ProductAt X Y U W
  ratio_all n h e =
      let lt : h < k = omega arith in
      ratio_step (X h) (Y h) (X (suc h)) (Y (suc h)) (U (suc h)) (W (suc h)) (T (suc h)) (T (suc h) - v (suc h)) (D * E) (mul-pos s.shares s.levels)
      (product_all n (suc h) (omega arith))
      (rest_step (X h) (Y h) (X (suc h)) (Y (suc h)) (a (suc h)) (b (suc h)) (U (suc h)) (W (suc h)) (T (suc h)) (v (suc h)) (T (suc h) - v (suc h)) (D * E)
      (total_more a (suc h)) (total_more b (suc h)) (omega (arith, tot.less h lt))
      (product_all n (suc h) (omega arith))
      (s.column (suc h) (omega arith)))

  sign_all : (n h : ℕ) → h + n ≡ k → Y h ≤ X h
  unfolding X Y
  sign_all zero h e = let eh : k ≡ h = omega arith in subst (λ (z : ℕ). Y z ≤ X z) eh (omega (arith, s.whole))
  sign_all (suc n) h e =
      sign_step (X h) (Y h) (X (suc h)) (Y (suc h)) (T (suc h)) (T (suc h) - v (suc h)) (T-pos h (omega arith)) (ratio_all n h e)
      (sign_all n (suc h) (omega arith))

  -- the running numerators of any solution, of whatever signs, are whole numbers that fall so
  pub exact : Exact k D v T (λ h. total (up_to a (suc h)) - total (up_to b (suc h)))
  unfolding X Y
  exact = record {
    top = omega (arith, s.whole);
    ratio = λ h lt.
        whole_step (X h) (Y h) (X (suc h)) (Y (suc h)) (X h - Y h) (X (suc h) - Y (suc h)) (T (suc h)) (T (suc h) - v (suc h))
        (ratio_all (k - suc h) h (omega arith))
        (omega (arith, sign_all (k - h) h (omega arith)))
        (omega (arith, sign_all (k - suc h) (suc h) (omega arith)));
  }

  pub sign : (h : ℕ) → h ≤ k → total (up_to b (suc h)) ≤ total (up_to a (suc h))
  unfolding X Y
  sign h le = sign_all (k - h) h (omega arith)

  rises : (h : ℕ) → h < k → total (up_to a (suc h)) - total (up_to b (suc h)) ≤ total (up_to a (suc (suc h))) - total (up_to b (suc (suc h)))
  rises h lt =
      let less : T (suc h) - v (suc h) ≤ T (suc h) = omega arith in
      le_of_mul-le-mul_right
      {k = T (suc h)}
      (omega (arith, exact.ratio h lt, mul-le-mul_left (total (up_to a (suc (suc h))) - total (up_to b (suc (suc h)))) less))
      (T-pos h lt)

  -- no share numerator is negative
  pub share_sign : (j : ℕ) → j ≤ k → b j ≤ a j
  share_sign zero le = omega (arith, sign 0 le, total_more a 0, total_more b 0, total_none a, total_none b)
  share_sign (suc h) le = omega (arith, rises h le, sign h (omega arith), sign (suc h) le, total_more a (suc h), total_more b (suc h))
