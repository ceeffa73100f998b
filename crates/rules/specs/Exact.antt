-- The exact solution (document 01, "Shares and levels"): Taylor's equations, with whole signed numerators over one denominator for the shares and
-- one for the levels, and the third demand of shares and levels against it. The walk of T_h and A_h takes no part in it. Assumes nothing.
use Rattle.std.specs.Prelude.{ℕ, zero, suc, ◌-◌, ◌*◌, ◌≤◌, ◌<◌, ◌+◌, ◌≡◌, ℤ, pos, ◌+ℤ◌, ◌*ℤ◌, nat_abs, ◌-ℤ◌, ◌≤ℤ◌, ◌<ℤ◌}
use Rattle.rules.specs.Triangle.{sum_to}
use Rattle.rules.specs.Lists.{total, up_to}
use Rattle.rules.specs.Separation.{billion}

-- f a + .. + f (a + n − 1)
unfoldable pub sum_from : (ℕ → ℤ) → ℕ → ℕ → ℤ
sum_from f a zero = pos 0
sum_from f a (suc n) = f a +ℤ sum_from f (suc a) n

-- denominators D and E of at least 1, shares r_j / D that sum to 1 and levels l_h / E, of any signs, with l_h × (r_0 + .. + r_h) = d_h, 004 (5), and
-- r_j × (l_j + .. + l_k) = v_j, 004 (6)
pub record Solves (k D E : ℕ) (v d r l : ℕ → ℤ) : Type 0 where
  pub shares : 0 < D
  pub levels : 0 < E
  pub whole : sum_to r (suc k) ≡ pos D
  pub diagonal : (h : ℕ) → h ≤ k → l h *ℤ sum_to r (suc h) ≡ d h *ℤ pos (D * E)
  pub column : (j : ℕ) → j ≤ k → r j *ℤ sum_from l j (suc k - j) ≡ v j *ℤ pos (D * E)

-- some exact solution
pub record Solution (k : ℕ) (v d : ℕ → ℤ) : Type 0 where
  pub D : ℕ
  pub E : ℕ
  pub r : ℕ → ℤ
  pub l : ℕ → ℤ
  pub solves : Solves k D E v d r l

-- f a + .. + f b
abbrev pub from_to : (ℕ → ℕ) → ℕ → ℕ → ℕ
from_to f a b = total (up_to (λ i. f (a + i)) (suc b - a))

-- printed shares r, in billionths, and levels l of the years 0 to k, beside the observed columns v and diagonals d, in hundredths
pub record NearExact (k : ℕ) (v d : ℕ → ℤ) (r l : ℕ → ℕ) : Type 0 where
  -- the shares sum to S
  pub whole : from_to r 0 k ≡ billion
  -- fitted diagonal h, l_h × A_h / S, is not above the observed d_h, nor a hundredth or more below
  pub diagonal_above : (h : ℕ) → h ≤ k → pos (l h * from_to r 0 h) ≤ℤ (d h *ℤ pos billion)
  pub diagonal_below : (h : ℕ) → h ≤ k → (d h *ℤ pos billion) <ℤ pos (l h * from_to r 0 h + billion)
  -- fitted column j, r_j × (l_j + .. + l_k) / S, is within (k − j + 1) × (1 + (l_j + .. + l_k) / S) hundredths of v_j
  pub column_near : (j : ℕ) → j ≤ k → nat_abs (pos (r j * from_to l j k) -ℤ (v j *ℤ pos billion)) ≤ (suc k - j) * (billion + from_to l j k)
  -- Taylor's equations have an exact solution
  pub solvable : Solution k v d
  -- against every exact solution share j is less than k − j + 1 billionths away
  pub share_near : (D E : ℕ) (x y : ℕ → ℤ) → Solves k D E v d x y → (j : ℕ) → j ≤ k → nat_abs ((pos billion *ℤ x j) -ℤ pos (r j * D)) < (suc k - j) * D
