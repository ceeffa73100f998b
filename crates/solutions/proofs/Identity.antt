-- The identity of every exact solution, of whatever signs: running share times level sum is T_h, and T_h − v_h is the running share of the year before times
-- the same level sum. Assumes nothing.
use mathlib.Core.Path.{◌≡◌, refl, ◌∙◌, ap, subst}
use Prim.Native.Nat.{ℕ, zero, suc, ◌+◌, ◌*◌, ◌-◌, ◌≤◌, ◌<◌}
use native.Mathlib.Nat.{le_refl}
use native.Mathlib.Omega.{arith}
use lib.IntN.{ℤ, pos, ◌+ℤ◌, ◌-ℤ◌, ◌*ℤ◌, +ℤ_idr, *ℤ_comm}
use Rattle.rules.specs.Triangle.{sum_to}
use Rattle.rules.specs.Exact.{sum_from, Solves}
use Rattle.laws.proofs.Diff.{is_self, is_pos, is_add, is_minus, is_mul, is_eqs, eq_is}

-- T of columns v and diagonals d of the years 0 to k, of whatever signs: T_k = d_k, T_h + v_{h+1} = T_{h+1} + d_h
pub record Corners (k : ℕ) (v d T : ℕ → ℤ) : Type 0 where
  pub last : T k ≡ d k
  pub down : (h : ℕ) → h < k → T h +ℤ v (suc h) ≡ T (suc h) +ℤ d h

-- the running share and the level sum of year h, by their numerators
abbrev pub running_share : (ℕ → ℤ) → ℕ → ℤ
running_share r h = sum_to r (suc h)

abbrev pub level_sum : ℕ → (ℕ → ℤ) → ℕ → ℤ
level_sum k l h = sum_from l h (suc k - h)

pub running_next : (r : ℕ → ℤ) (h : ℕ) → running_share r (suc h) ≡ running_share r h +ℤ r (suc h)
unfolding sum_to
running_next r h = refl

sum_last : (k : ℕ) (l : ℕ → ℤ) → level_sum k l k ≡ l k
unfolding sum_from
sum_last k l = let e : suc k - k ≡ 1 = omega arith in ap (λ (n : ℕ). sum_from l k n) e ∙ +ℤ_idr (l k)

sum_down : (k : ℕ) (l : ℕ → ℤ) (h : ℕ) → h < k → level_sum k l h ≡ l h +ℤ level_sum k l (suc h)
unfolding sum_from
sum_down k l h lt = let e : suc k - h ≡ suc (suc k - suc h) = omega arith in ap (λ (n : ℕ). sum_from l h n) e

-- one year down, a prime at year h + 1
identity_step : (x x' a' u u' l t t' v' d : ℤ) (F : ℕ) → x' ≡ x +ℤ a' → u ≡ l +ℤ u' → t +ℤ v' ≡ t' +ℤ d →
    x' *ℤ u' ≡ t' *ℤ pos F → a' *ℤ u' ≡ v' *ℤ pos F → l *ℤ x ≡ d *ℤ pos F → x *ℤ u ≡ t *ℤ pos F
identity_step x x' a' u u' l t t' v' d F ex eu et p c g =
    let p' : (x +ℤ a') *ℤ u' ≡ t' *ℤ pos F = rw ex at p in
    rw eu
    (eq_is (is_mul (is_self x) (is_add (is_self l) (is_self u'))) (is_mul (is_self t) (is_pos F))
    (omega (
      arith,
      ap (λ (z : ℕ). z * F) (is_eqs (is_add (is_self t) (is_self v')) (is_add (is_self t') (is_self d)) et),
      is_eqs (is_mul (is_add (is_self x) (is_self a')) (is_self u')) (is_mul (is_self t') (is_pos F)) p',
      is_eqs (is_mul (is_self a') (is_self u')) (is_mul (is_self v') (is_pos F)) c,
      is_eqs (is_mul (is_self l) (is_self x)) (is_mul (is_self d) (is_pos F)) g,
    )))

rest_step : (x x' a' u' t' v' : ℤ) (F : ℕ) → x' ≡ x +ℤ a' → x' *ℤ u' ≡ t' *ℤ pos F → a' *ℤ u' ≡ v' *ℤ pos F → u' *ℤ x ≡ (t' -ℤ v') *ℤ pos F
rest_step x x' a' u' t' v' F ex p c =
    let p' : (x +ℤ a') *ℤ u' ≡ t' *ℤ pos F = rw ex at p in
    eq_is (is_mul (is_self u') (is_self x)) (is_mul (is_minus (is_self t') (is_self v')) (is_pos F))
    (omega (
      arith,
      is_eqs (is_mul (is_add (is_self x) (is_self a')) (is_self u')) (is_mul (is_self t') (is_pos F)) p',
      is_eqs (is_mul (is_self a') (is_self u')) (is_mul (is_self v') (is_pos F)) c,
    ))

module _ (k D E : ℕ) (v d T r l : ℕ → ℤ) (c : Corners k v d T) (s : Solves k D E v d r l) where
  identity_all : (n h : ℕ) → h + n ≡ k → running_share r h *ℤ level_sum k l h ≡ T h *ℤ pos (D * E)
  identity_all zero h e =
      let eh : k ≡ h = omega arith in
      subst (λ (z : ℕ). running_share r z *ℤ level_sum k l z ≡ T z *ℤ pos (D * E)) eh
      (rw (sum_last k l, c.last) (*ℤ_comm (running_share r k) (l k) ∙ s.diagonal k (le_refl k)))
  identity_all (suc n) h e =
      let lt : h < k = omega arith in
      identity_step (running_share r h) (running_share r (suc h)) (r (suc h)) (level_sum k l h) (level_sum k l (suc h)) (l h) (T h) (T (suc h)) (v (suc h)) (d h) (D * E)
      (running_next r h) (sum_down k l h lt) (c.down h lt) (identity_all n (suc h) (omega arith)) (s.column (suc h) lt) (s.diagonal h (omega arith))

  -- (r_0 + .. + r_h) × (l_h + .. + l_k) = T_h
  pub identity : (h : ℕ) → h ≤ k → running_share r h *ℤ level_sum k l h ≡ T h *ℤ pos (D * E)
  identity h le = identity_all (k - h) h (omega arith)

  -- (l_{h+1} + .. + l_k) × (r_0 + .. + r_h) = T_{h+1} − v_{h+1}
  pub rest : (h : ℕ) → h < k → level_sum k l (suc h) *ℤ running_share r h ≡ (T (suc h) -ℤ v (suc h)) *ℤ pos (D * E)
  rest h lt =
      rest_step (running_share r h) (running_share r (suc h)) (r (suc h)) (level_sum k l (suc h)) (T (suc h)) (v (suc h)) (D * E)
      (running_next r h) (identity (suc h) lt) (s.column (suc h) lt)
