-- A triangle whose averages are exactly share times level has those as an exact solution: a diagonal is its level times a running share, a column
-- its share times a level sum. Assumes nothing.
use mathlib.Core.Path.{◌≡◌, refl, sym, ◌∙◌, ap, ap₂}
use mathlib.Core.Bool.{Bool, cond}
use mathlib.Core.List.{List}
use Prim.Native.Nat.{ℕ, zero, suc, ◌+◌, ◌*◌, ◌-◌, ◌≤◌, ◌<◌}
use native.Mathlib.Omega.{arith}
use native.Mathlib.Decide.{ℕ_discrete}
use borrow.Author.Tests.{eq-eqb, ne_eqb}
use lib.Dec.{eqb}
use lib.IntN.{ℤ, pos, ◌+ℤ◌, ◌*ℤ◌, +ℤ_idl, +ℤ_comm, *ℤ_comm, zero-*ℤ}
use Rattle.rules.specs.Triangle.{sum_to, cell_of, cells_total, column_total, diagonal_total, ZeroOutside}
use Rattle.rules.specs.Exact.{sum_from, Solves}
use Rattle.rules.specs.Positive.{Products}
use Rattle.laws.proofs.Diff.{is_self, is_add, is_mul, eq_is}
use Rattle.laws.proofs.Sums.{sum_to_same, sum_to_zero, sum_to_one, sum_to_cut, left_out_eq}
use Rattle.laws.proofs.Totals.{sum_to_parts}
use Rattle.totals.proofs.Walk.{column_walk}

-- each term multiplied
sum_times : (c : ℤ) (f : ℕ → ℤ) (n : ℕ) → sum_to (λ i. f i *ℤ c) n ≡ sum_to f n *ℤ c
unfolding sum_to
sum_times c f zero = sym (zero-*ℤ c)
sum_times c f (suc n) = ap (λ (z : ℤ). z +ℤ f n *ℤ c) (sum_times c f n) ∙ step (sum_to f n) (f n)
  where
    step : (a b : ℤ) → a *ℤ c +ℤ b *ℤ c ≡ (a +ℤ b) *ℤ c
    step a b = eq_is (is_add (is_mul (is_self a) (is_self c)) (is_mul (is_self b) (is_self c))) (is_mul (is_add (is_self a) (is_self b)) (is_self c)) (omega arith)

-- the first term apart
sum_first : (f : ℕ → ℤ) (n : ℕ) → sum_to f (suc n) ≡ f 0 +ℤ sum_to (λ i. f (suc i)) n
unfolding sum_to
sum_first f n =
    let e : 1 + n ≡ suc n = omega arith in
    ap (sum_to f) (sym e)
    ∙ sum_to_parts f 1 n
    ∙ ap₂ (λ (a b : ℤ). a +ℤ b) (+ℤ_idl (f 0)) (sum_to_same (λ c. f (1 + c)) (λ i. f (suc i)) n (λ i lt. let w : 1 + i ≡ suc i = omega arith in ap f w))

-- the terms backwards
sum_back : (f : ℕ → ℤ) (h : ℕ) → sum_to (λ i. f (h - i)) (suc h) ≡ sum_to f (suc h)
unfolding sum_to
sum_back f zero = refl
sum_back f (suc g) =
    let e : suc g - 0 ≡ suc g = omega arith in
    sum_first (λ i. f (suc g - i)) (suc g)
    ∙ ap₂ (λ (a b : ℤ). a +ℤ b) (ap f e)
    (sum_to_same (λ i. f (suc g - suc i)) (λ i. f (g - i)) (suc g) (λ i lt. let w : suc g - suc i ≡ g - i = omega arith in ap f w) ∙ sum_back f g)
    ∙ +ℤ_comm (f (suc g)) (sum_to f (suc g))

-- the terms from j on
from_sum : (f : ℕ → ℤ) (j n : ℕ) → sum_to (λ i. f (i + j)) n ≡ sum_from f j n
unfolding sum_to sum_from
from_sum f j zero = refl
from_sum f j (suc n) =
    let e : 0 + j ≡ j = omega arith in
    sum_first (λ i. f (i + j)) n
    ∙ ap₂ (λ (a b : ℤ). a +ℤ b) (ap f e)
    (sum_to_same (λ i. f (suc i + j)) (λ i. f (i + suc j)) n (λ i lt. let w : suc i + j ≡ i + suc j = omega arith in ap f w) ∙ from_sum f (suc j) n)

-- of row i the cell on diagonal h is that in column h − i
on_diagonal : (i j h : ℕ) → i ≤ h → eqb (i + j) h ≡ eqb j (h - i)
on_diagonal i j h le = go (ℕ_discrete j (h - i))
  where
    go : Dec (j ≡ h - i) → eqb (i + j) h ≡ eqb j (h - i)
    go (yes e) = eq-eqb (i + j) h (omega arith) ∙ sym (eq-eqb j (h - i) e)
    go (no ne) = ne_eqb (i + j) h (λ e. ne (omega arith)) ∙ sym (ne_eqb j (h - i) ne)

-- diagonal h is s 0 h + s 1 (h − 1) + .. + s h 0
diagonal_walk : (s : List (List ℤ)) (h : ℕ) → h < 16 → diagonal_total s h ≡ sum_to (λ i. cell_of s i (h - i)) (suc h)
unfolding diagonal_total cells_total
diagonal_walk s h lt =
    sum_to_cut row (suc h) 16 lt (λ i ge. sum_to_zero (λ j. cond (eqb (i + j) h) (cell_of s i j) (pos 0)) 16 (λ j l. left_out_eq (i + j) h (cell_of s i j) (λ e. omega arith)))
    ∙ sum_to_same row (λ i. cell_of s i (h - i)) (suc h)
    (λ i l.
    sum_to_same (λ j. cond (eqb (i + j) h) (cell_of s i j) (pos 0)) (λ j. cond (eqb j (h - i)) (cell_of s i j) (pos 0)) 16
    (λ j m. ap (λ (b : Bool). cond b (cell_of s i j) (pos 0)) (on_diagonal i j h (omega arith)))
    ∙ sum_to_one (cell_of s i) (h - i) 16 (omega arith))
  where
    row : ℕ → ℤ
    row i = sum_to (λ j. cond (eqb (i + j) h) (cell_of s i j) (pos 0)) 16

module _ (k D E : ℕ) (r l : ℕ → ℤ) (s : List (List ℤ)) (few : k < 16) (out : ZeroOutside s k) (p : Products k D E r l s) where
  -- l_h × (r_0 + .. + r_h) = d_h
  diagonals : (h : ℕ) → h ≤ k → l h *ℤ sum_to r (suc h) ≡ diagonal_total s h *ℤ pos (D * E)
  diagonals h le =
      sym (
      ap (λ (z : ℤ). z *ℤ pos (D * E)) (diagonal_walk s h (omega arith))
      ∙ sym (sum_times (pos (D * E)) (λ i. cell_of s i (h - i)) (suc h))
      ∙ sum_to_same (λ i. cell_of s i (h - i) *ℤ pos (D * E)) (λ i. r (h - i) *ℤ l h) (suc h)
      (λ i lt. let e : i + (h - i) ≡ h = omega arith in p.cell i (h - i) (omega arith) ∙ ap (λ (g : ℕ). r (h - i) *ℤ l g) e)
      ∙ sum_times (l h) (λ i. r (h - i)) (suc h)
      ∙ ap (λ (z : ℤ). z *ℤ l h) (sum_back r h)
      ∙ *ℤ_comm (sum_to r (suc h)) (l h)
      )

  -- r_j × (l_j + .. + l_k) = v_j
  columns : (j : ℕ) → j ≤ k → r j *ℤ sum_from l j (suc k - j) ≡ column_total s j *ℤ pos (D * E)
  columns j le =
      sym (
      ap (λ (z : ℤ). z *ℤ pos (D * E))
      (column_walk s j (omega arith) ∙ sum_to_cut (λ i. cell_of s i j) (suc k - j) 16 (omega arith) (λ i ge. out i j (omega arith)))
      ∙ sym (sum_times (pos (D * E)) (λ i. cell_of s i j) (suc k - j))
      ∙ sum_to_same (λ i. cell_of s i j *ℤ pos (D * E)) (λ i. l (i + j) *ℤ r j) (suc k - j)
      (λ i lt. p.cell i j (omega arith) ∙ *ℤ_comm (r j) (l (i + j)))
      ∙ sum_times (r j) (λ i. l (i + j)) (suc k - j)
      ∙ ap (λ (z : ℤ). z *ℤ r j) (from_sum l j (suc k - j))
      ∙ *ℤ_comm (sum_from l j (suc k - j)) (r j)
      )

  pub products_solve : Solves k D E (column_total s) (diagonal_total s) r l
  products_solve = record { shares = p.shares; levels = p.levels; whole = p.whole; diagonal = diagonals; column = columns }
