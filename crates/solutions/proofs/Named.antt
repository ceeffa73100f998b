-- The named sums of an exact solution are positive just where T_h is above v_h; and a solution of whose named sums none is zero is the only one.
-- Assumes nothing.
use mathlib.Core.Path.{◌≡◌, ◌∙◌, subst}
use Prim.Native.Nat.{ℕ, zero, suc, ◌+◌, ◌*◌, ◌-◌, ◌≤◌, ◌<◌}
use native.Mathlib.Nat.{mul-pos, mul_comm}
use native.Mathlib.Omega.{arith}
use native.Mathlib.Decide.{dec_le}
use lib.IntN.{ℤ, pos, ◌+ℤ◌, ◌-ℤ◌, ◌*ℤ◌, +ℤ_idl, *ℤ_comm}
use lib.Signed.{◌≤ℤ◌, ◌<ℤ◌}
use Rattle.rules.specs.Triangle.{sum_to}
use Rattle.rules.specs.Exact.{Solves}
use Rattle.rules.specs.Positive.{Positive, Same}
use Rattle.laws.proofs.Diff.{is_self, is_pos, is_add, is_minus, is_mul, is_eqs, eq_is, is_le, le_is}
use Rattle.solutions.proofs.Signs.{whole_positive, from_one, above_not_zero, product_above, factor_above, cross}
use Rattle.solutions.proofs.Identity.{Corners, running_share, level_sum, running_next, identity, rest}

-- T_h, not below what is left of it
corner_above : (t v : ℤ) → pos 0 ≤ℤ v → pos 1 ≤ℤ (t -ℤ v) → pos 1 ≤ℤ t
corner_above t v p q =
    le_is (is_pos 1) (is_self t) (omega (arith, is_le (is_pos 0) (is_self v) p, is_le (is_pos 1) (is_minus (is_self t) (is_self v)) q))

module _ (k D E : ℕ) (v d T r l : ℕ → ℤ) (c : Corners k v d T) (s : Solves k D E v d r l) where
  denominators : 0 < D * E
  denominators = mul-pos s.shares s.levels

  -- the named sums positive: T_h is above v_h, whatever the signs of the columns and diagonals
  pub rest_above : Positive k r l → (h : ℕ) → h < k → pos 1 ≤ℤ (T (suc h) -ℤ v (suc h))
  rest_above p h lt =
      product_above (level_sum k l (suc h)) (running_share r h) (T (suc h) -ℤ v (suc h)) (D * E) (p.levels (suc h) (omega arith) lt) (p.running h lt) (rest k D E v d T r l c s h lt)

  -- all the shares are D, which is positive
  pub all_shares : (h : ℕ) → k ≡ h → pos 0 <ℤ running_share r h
  all_shares h e = subst (λ (z : ℕ). pos 0 <ℤ running_share r z) e (rw s.whole (whole_positive D s.shares))

  module _ (least : (h : ℕ) → h < k → pos 0 ≤ℤ v (suc h)) (rests : (h : ℕ) → h < k → pos 1 ≤ℤ (T (suc h) -ℤ v (suc h))) where
    levels_above : (h : ℕ) → h < k → pos 0 <ℤ running_share r (suc h) → pos 0 <ℤ level_sum k l (suc h)
    levels_above h lt p =
        factor_above (running_share r (suc h)) (level_sum k l (suc h)) (T (suc h)) (D * E) denominators p
        (from_one (T (suc h)) (corner_above (T (suc h)) (v (suc h)) (least h lt) (rests h lt))) (identity k D E v d T r l c s (suc h) lt)

    running_above : (n h : ℕ) → h + n ≡ k → pos 0 <ℤ running_share r h
    running_above zero h e = all_shares h (omega arith)
    running_above (suc n) h e =
        let lt : h < k = omega arith in
        let next = running_above n (suc h) (omega arith) in
        factor_above (level_sum k l (suc h)) (running_share r h) (T (suc h) -ℤ v (suc h)) (D * E) denominators (levels_above h lt next)
        (from_one (T (suc h) -ℤ v (suc h)) (rests h lt)) (rest k D E v d T r l c s h lt)

    -- T_h above v_h, and no column below zero: the named sums of every exact solution are positive
    pub all_positive : Positive k r l
    all_positive = record {
      running = λ h lt. running_above (k - h) h (omega arith);
      levels = λ h ge le.
          let e : suc (h - 1) ≡ h = omega arith in
          subst (λ (z : ℕ). pos 0 <ℤ level_sum k l z) e
          (levels_above (h - 1) (omega arith) (running_above (k - suc (h - 1)) (suc (h - 1)) (omega arith)));
    }

-- none of the named sums is zero
pub record NoneZero (k : ℕ) (r l : ℕ → ℤ) : Type 0 where
  pub running : (h : ℕ) → h < k → running_share r h ≡ pos 0 → ⊥
  pub levels : (h : ℕ) → h < k → level_sum k l (suc h) ≡ pos 0 → ⊥

pub positive_none_zero : (k : ℕ) (r l : ℕ → ℤ) → Positive k r l → NoneZero k r l
positive_none_zero k r l p = record {
  running = λ h lt. above_not_zero (running_share r h) (p.running h lt);
  levels = λ h lt. above_not_zero (level_sum k l (suc h)) (p.levels (suc h) (omega arith) lt);
}

-- r = x − y, where x, x' and y, y' are the same fractions
difference : (x y r x' y' r' : ℤ) (D D' : ℕ) → x ≡ y +ℤ r → x' ≡ y' +ℤ r' → x *ℤ pos D' ≡ x' *ℤ pos D → y *ℤ pos D' ≡ y' *ℤ pos D → r *ℤ pos D' ≡ r' *ℤ pos D
difference x y r x' y' r' D D' e e' p q =
    let p' : (y +ℤ r) *ℤ pos D' ≡ (y' +ℤ r') *ℤ pos D = rw (e, e') at p in
    eq_is (is_mul (is_self r) (is_pos D')) (is_mul (is_self r') (is_pos D))
    (omega (
      arith,
      is_eqs (is_mul (is_add (is_self y) (is_self r)) (is_pos D')) (is_mul (is_add (is_self y') (is_self r')) (is_pos D)) p',
      is_eqs (is_mul (is_self y) (is_pos D')) (is_mul (is_self y') (is_pos D)) q,
    ))

first_sum : (r : ℕ → ℤ) → running_share r 0 ≡ r 0
unfolding sum_to
first_sum r = +ℤ_idl (r 0)

module _ (k D E F G : ℕ) (v d T r l x y : ℕ → ℤ) (c : Corners k v d T) (s : Solves k D E v d r l) (n : NoneZero k r l) (t : Solves k F G v d x y) where
  running_not_zero : (h : ℕ) → h ≤ k → running_share r h ≡ pos 0 → ⊥
  running_not_zero h le = go (dec_le (suc h) k)
    where
      go : Dec (suc h ≤ k) → running_share r h ≡ pos 0 → ⊥
      go (yes lt) = n.running h lt
      go (no ge) = above_not_zero (running_share r h) (all_shares k D E v d T r l c s h (omega arith))

  -- the level sums are the same where the running shares are
  levels_same : (h : ℕ) → h < k → running_share r (suc h) *ℤ pos F ≡ running_share x (suc h) *ℤ pos D → level_sum k l (suc h) *ℤ pos G ≡ level_sum k y (suc h) *ℤ pos E
  levels_same h lt e =
      cross (running_share r (suc h)) (level_sum k l (suc h)) (running_share x (suc h)) (level_sum k y (suc h)) (T (suc h)) D E F G t.shares (running_not_zero (suc h) lt)
      (identity k D E v d T r l c s (suc h) lt) (identity k F G v d T x y c t (suc h) lt) e

  running_same : (m h : ℕ) → h + m ≡ k → running_share r h *ℤ pos F ≡ running_share x h *ℤ pos D
  running_same zero h e =
      let eh : k ≡ h = omega arith in
      subst (λ (z : ℕ). running_share r z *ℤ pos F ≡ running_share x z *ℤ pos D) eh (rw (s.whole, t.whole) (*ℤ_comm (pos D) (pos F)))
  running_same (suc m) h e =
      let lt : h < k = omega arith in
      cross (level_sum k l (suc h)) (running_share r h) (level_sum k y (suc h)) (running_share x h) (T (suc h) -ℤ v (suc h)) E D G F t.levels (n.levels h lt)
      (rw (mul_comm E D) (rest k D E v d T r l c s h lt)) (rw (mul_comm G F) (rest k F G v d T x y c t h lt))
      (levels_same h lt (running_same m (suc h) (omega arith)))

  shares_same : (j : ℕ) → j ≤ k → r j *ℤ pos F ≡ x j *ℤ pos D
  shares_same zero le = rw (first_sum r, first_sum x) at (running_same k 0 (omega arith))
  shares_same (suc h) le =
      difference (running_share r (suc h)) (running_share r h) (r (suc h)) (running_share x (suc h)) (running_share x h) (x (suc h)) D F (running_next r h) (running_next x h)
      (running_same (k - suc h) (suc h) (omega arith)) (running_same (k - h) h (omega arith))

  level_same : (h : ℕ) → h ≤ k → l h *ℤ pos G ≡ y h *ℤ pos E
  level_same h le =
      cross (running_share r h) (l h) (running_share x h) (y h) (d h) D E F G t.shares (running_not_zero h le)
      (*ℤ_comm (running_share r h) (l h) ∙ s.diagonal h le) (*ℤ_comm (running_share x h) (y h) ∙ t.diagonal h le) (running_same (k - h) h (omega arith))

  -- the two solutions are the same
  pub same : Same k D E r l F G x y
  same = record { shares = shares_same; levels = level_same }
