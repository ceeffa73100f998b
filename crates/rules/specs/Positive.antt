-- What refusal 8 is about (document 02, "Refusal 8 as a fact about the triangle"): the exact solutions of the kind that the method needs, when two solutions
-- are the same one, and triangles that are exactly share times level. The search for shares, T_h and A_h, takes no part in any of it. Assumes nothing.
use Rattle.std.specs.Prelude.{ℕ, suc, ◌+◌, ◌-◌, ◌*◌, ◌≤◌, ◌<◌, ◌≡◌, List, ℤ, pos, ◌*ℤ◌, ◌<ℤ◌}
use Rattle.rules.specs.Triangle.{sum_to, cell_of, column_total, diagonal_total}
use Rattle.rules.specs.Exact.{sum_from, Solves}

-- every running share from r_0 to r_0 + .. + r_{k−1} and every level sum l_h + .. + l_k, h from 1 to k, is positive; r and l are the numerators, over
-- denominators of at least 1
pub record Positive (k : ℕ) (r l : ℕ → ℤ) : Type 0 where
  pub running : (h : ℕ) → h < k → pos 0 <ℤ sum_to r (suc h)
  pub levels : (h : ℕ) → 1 ≤ h → h ≤ k → pos 0 <ℤ sum_from l h (suc k - h)

-- some exact solution of that kind, of the columns v and the diagonals d
pub record PositiveSolution (k : ℕ) (v d : ℕ → ℤ) : Type 0 where
  pub D : ℕ
  pub E : ℕ
  pub r : ℕ → ℤ
  pub l : ℕ → ℤ
  pub solves : Solves k D E v d r l
  pub positive : Positive k r l

-- a square s of averages, zero outside the triangle of the years 0 to k, that has one
abbrev pub Separable : List (List ℤ) → ℕ → Type 0
Separable s k = PositiveSolution k (column_total s) (diagonal_total s)

-- the shares r / D and x / F are the same fractions, and so are the levels l / E and y / G
pub record Same (k D E : ℕ) (r l : ℕ → ℤ) (F G : ℕ) (x y : ℕ → ℤ) : Type 0 where
  pub shares : (j : ℕ) → j ≤ k → r j *ℤ pos F ≡ x j *ℤ pos D
  pub levels : (h : ℕ) → h ≤ k → l h *ℤ pos G ≡ y h *ℤ pos E

-- a triangle of products: every average of the years 0 to k is exactly share times level, s_ij = r_j × l_{i+j}, the shares r / D summing to 1, the levels over E
pub record Products (k D E : ℕ) (r l : ℕ → ℤ) (s : List (List ℤ)) : Type 0 where
  pub shares : 0 < D
  pub levels : 0 < E
  pub whole : sum_to r (suc k) ≡ pos D
  pub cell : (i j : ℕ) → i + j ≤ k → cell_of s i j *ℤ pos (D * E) ≡ r j *ℤ l (i + j)
