-- Taylor's equations have an exact solution: shares over the product of the T_g, levels over the product of the T_g − v_g, g from 1 to k.
-- Assumes nothing.
use mathlib.Core.Path.{◌≡◌, refl, sym, ◌∙◌, ap, subst}
use Prim.Native.Nat.{ℕ, zero, suc, ◌+◌, ◌*◌, ◌-◌, ◌≤◌, ◌<◌}
use native.Mathlib.Nat.{mul-pos}
use native.Mathlib.Omega.{arith}
use lib.IntN.{ℤ, pos, ◌+ℤ◌}
use Rattle.rules.specs.Lists.{total, up_to}
use Rattle.rules.specs.Exact.{sum_from, Solution, from_to}
use Rattle.laws.proofs.Totals.{total_none, total_more, total_from, sum_to_pos, from_to_one, from_to_first}
use Rattle.totals.proofs.Whole.{Totals}

-- f 1 × .. × f h
unfoldable up_product : (ℕ → ℕ) → ℕ → ℕ
up_product f zero = 1
up_product f (suc h) = up_product f h * f (suc h)

-- f (h + 1) × .. × f (h + n)
unfoldable next_product : (ℕ → ℕ) → ℕ → ℕ → ℕ
next_product f h zero = 1
next_product f h (suc n) = f (suc h) * next_product f (suc h) n

up_zero : (f : ℕ → ℕ) → up_product f 0 ≡ 1
unfolding up_product
up_zero f = refl

up_suc : (f : ℕ → ℕ) (h : ℕ) → up_product f (suc h) ≡ up_product f h * f (suc h)
unfolding up_product
up_suc f h = refl

up_pos : (f : ℕ → ℕ) (h : ℕ) → ((g : ℕ) → g < h → 0 < f (suc g)) → 0 < up_product f h
unfolding up_product
up_pos f zero p = omega arith
up_pos f (suc h) p = mul-pos (up_pos f h (λ g lt. p g (omega arith))) (p h (omega arith))

next_first : (f : ℕ → ℕ) (k h : ℕ) → h < k → next_product f h (k - h) ≡ f (suc h) * next_product f (suc h) (k - suc h)
unfolding next_product
next_first f k h lt = let e : k - h ≡ suc (k - suc h) = omega arith in ap (λ (n : ℕ). next_product f h n) e

next_none : (f : ℕ → ℕ) (k : ℕ) → next_product f k (k - k) ≡ 1
unfolding next_product
next_none f k = let e : k - k ≡ 0 = omega arith in ap (λ (n : ℕ). next_product f k n) e

-- both together
up_next : (f : ℕ → ℕ) (k n h : ℕ) → h + n ≡ k → up_product f h * next_product f h (k - h) ≡ up_product f k
up_next f k zero h e =
    let eh : k ≡ h = omega arith in subst (λ (z : ℕ). up_product f z * next_product f z (k - z) ≡ up_product f k) eh (rw (next_none f k) (omega arith))
up_next f k (suc n) h e = rw (next_first f k h (omega arith)) (omega (arith, rw (up_suc f h) at (up_next f k n (suc h) (omega arith))))

-- the levels from one on, where they are whole numbers
sum_from_pos : (f : ℕ → ℕ) (a n : ℕ) → sum_from (λ i. pos (f i)) a n ≡ pos (total (up_to (λ i. f (a + i)) n))
unfolding sum_from
sum_from_pos f a zero = ap pos (sym (total_none (λ i. f (a + i))))
sum_from_pos f a (suc n) = ap (λ (z : ℤ). pos (f a) +ℤ z) (sum_from_pos f (suc a) n) ∙ ap pos (sym (total_from f a n))

share_step : (x y v q t : ℕ) → t ≡ q + v → x * (q * y) + x * v * y ≡ x * t * y
share_step x y v q t e = rw e (omega arith)

level_step : (x y q t t' v d : ℕ) → t + v ≡ t' + d → t' ≡ q + v → d * (t' * x * y) + t' * (x * (y * q)) ≡ t * (t' * x * y)
level_step x y q t t' v d e f = let g : t ≡ q + d = omega arith in rw g (omega arith)

diagonal_step : (d x y x' y' D E : ℕ) → x * x' ≡ D → y * y' ≡ E → d * (x' * y) * (x * y') ≡ d * (D * E)
diagonal_step d x y x' y' D E e f = rw (← e, ← f) (omega arith)

column_step : (v t q x y x' y' D E : ℕ) → x * t * x' ≡ D → y * q * y' ≡ E → x * v * y' * (t * (x' * (y * q))) ≡ v * (D * E)
column_step v t q x y x' y' D E e f = rw (← e, ← f) (omega arith)

column_first : (v x' y' D E : ℕ) → 1 * x' ≡ D → 1 * y' ≡ E → 1 * y' * (v * (x' * 1)) ≡ v * (D * E)
column_first v x' y' D E e f = rw (← e, ← f) (omega arith)

module _ (k : ℕ) (v d T : ℕ → ℕ) (tot : Totals k v d T) where
  q : ℕ → ℕ
  q h = T h - v h

  -- the numerators of the running shares and of the shares
  running : ℕ → ℕ
  running h = up_product T h * next_product q h (k - h)

  share : ℕ → ℕ
  share zero = running 0
  share (suc h) = up_product T h * v (suc h) * next_product q (suc h) (k - suc h)

  -- the numerators of 1 over the running shares and of the levels
  inverse : ℕ → ℕ
  inverse h = next_product T h (k - h) * up_product q h

  level : ℕ → ℕ
  level h = d h * inverse h

  q_is : (h : ℕ) → h < k → T (suc h) ≡ q (suc h) + v (suc h)
  unfolding q
  q_is h lt = omega (arith, tot.less h lt)

  q_pos : (h : ℕ) → h < k → 0 < q (suc h)
  unfolding q
  q_pos h lt = omega (arith, tot.less h lt)

  T-together : (h : ℕ) → h ≤ k → up_product T h * next_product T h (k - h) ≡ up_product T k
  T-together h le = up_next T k (k - h) h (omega arith)

  q_together : (h : ℕ) → h ≤ k → up_product q h * next_product q h (k - h) ≡ up_product q k
  q_together h le = up_next q k (k - h) h (omega arith)

  shares_sum : (h : ℕ) → h ≤ k → total (up_to share (suc h)) ≡ running h
  unfolding running share
  shares_sum zero le = omega (arith, total_more share 0, total_none share)
  shares_sum (suc h) le =
      rw (total_more share (suc h), shares_sum h (omega arith), next_first q k h le, up_suc T h)
      (share_step (up_product T h) (next_product q (suc h) (k - suc h)) (v (suc h)) (q (suc h)) (T (suc h)) (q_is h le))

  levels_sum : (n h : ℕ) → h + n ≡ k → from_to level h k ≡ T h * inverse h
  unfolding inverse level
  levels_sum zero h e =
      let eh : k ≡ h = omega arith in subst (λ (z : ℕ). from_to level z k ≡ T z * inverse z) eh (rw (from_to_one level k, tot.last) refl)
  levels_sum (suc n) h e =
      let lt : h < k = omega arith in
      rw (from_to_first level h k lt, levels_sum n (suc h) (omega arith), next_first T k h lt, up_suc q h)
      (level_step (next_product T (suc h) (k - suc h)) (up_product q h) (q (suc h)) (T h) (T (suc h)) (v (suc h)) (d h) (tot.down h lt) (q_is h lt))

  columns : (j : ℕ) → j ≤ k → share j * from_to level j k ≡ v j * (up_product T k * up_product q k)
  unfolding running share inverse
  columns zero le =
      rw (levels_sum k 0 (omega arith), tot.first, up_zero T, up_zero q)
      (column_first (v 0) (next_product T 0 (k - 0)) (next_product q 0 (k - 0)) (up_product T k) (up_product q k)
      (rw (up_zero T) at (T-together 0 le)) (rw (up_zero q) at (q_together 0 le)))
  columns (suc h) le =
      rw (levels_sum (k - suc h) (suc h) (omega arith), up_suc q h)
      (column_step (v (suc h)) (T (suc h)) (q (suc h)) (up_product T h) (up_product q h) (next_product T (suc h) (k - suc h))
      (next_product q (suc h) (k - suc h)) (up_product T k) (up_product q k)
      (rw (up_suc T h) at (T-together (suc h) le)) (rw (up_suc q h) at (q_together (suc h) le)))

  diagonals : (h : ℕ) → h ≤ k → level h * total (up_to share (suc h)) ≡ d h * (up_product T k * up_product q k)
  unfolding running inverse level
  diagonals h le =
      rw (shares_sum h le)
      (diagonal_step (d h) (up_product T h) (up_product q h) (next_product T h (k - h)) (next_product q h (k - h)) _ _ (T-together h le) (q_together h le))

  whole : total (up_to share (suc k)) ≡ up_product T k
  unfolding running
  whole = shares_sum k (omega arith) ∙ rw (next_none q k) (omega arith)

  -- so signed columns and diagonals that are these whole numbers have a solution
  pub exists : (v' d' : ℕ → ℤ) → ((j : ℕ) → j ≤ k → v' j ≡ pos (v j)) → ((h : ℕ) → h ≤ k → d' h ≡ pos (d h)) → Solution k v' d'
  exists v' d' ev ed = record {
    D = up_product T k;
    E = up_product q k;
    r = λ j. pos (share j);
    l = λ h. pos (level h);
    solves = record {
      shares = up_pos T k (λ h lt. omega (arith, tot.less h lt));
      levels = up_pos q k q_pos;
      whole = sum_to_pos (λ i. pos (share i)) share (suc k) (λ i le. refl) ∙ ap pos whole;
      diagonal = λ h le. rw (ed h le, sum_to_pos (λ i. pos (share i)) share (suc h) (λ i le. refl)) (ap pos (diagonals h le));
      column = λ j le. rw (ev j le, sum_from_pos level j (suc k - j)) (ap pos (columns j le));
    };
  }
