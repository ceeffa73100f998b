-- A column row by row, the whole by columns or by diagonals, and T_h by both. Assumes nothing.
use mathlib.Core.Path.{◌≡◌, sym, ◌∙◌, ap}
use mathlib.Core.Bool.{cond}
use mathlib.Core.List.{List}
use Prim.Native.Nat.{ℕ, zero, suc, ◌<◌}
use native.Mathlib.Omega.{arith}
use native.Mathlib.Decide.{ℕ_discrete}
use lib.Dec.{eqb}
use lib.IntN.{ℤ, pos, ◌+ℤ◌, +ℤ_idl, +ℤ_idr, +ℤ_assoc, +ℤ_comm}
use Rattle.rules.specs.Triangle.{cell_of, sum_to, cells_total, ZeroOutside, column_total, diagonal_total, corner_total, all_total}
use Rattle.laws.proofs.Sums.{sum_to_same, sum_to_one, sum_to_cut, sum_to_turn, zero_term, left_out_eq}
use Rattle.totals.proofs.Cells.{cells_zero}
use Rattle.totals.proofs.Corners.{corner_down, corner_first, corner_last}

-- column j is s 0 j + .. + s 15 j
pub column_walk : (s : List (List ℤ)) (j : ℕ) → j < 16 → column_total s j ≡ sum_to (λ i. cell_of s i j) 16
unfolding column_total cells_total
column_walk s j lt = sum_to_same _ _ 16 (λ i l. sum_to_one (cell_of s i) j 16 lt)

-- the whole by columns
pub all_columns : (s : List (List ℤ)) → all_total s ≡ sum_to (column_total s) 16
unfolding all_total cells_total
all_columns s = sum_to_turn (cell_of s) 16 16 ∙ sum_to_same (λ j. sum_to (λ i. cell_of s i j) 16) (column_total s) 16 (λ j l. sym (column_walk s j l))

-- a column past year k
pub column_outside : (s : List (List ℤ)) (k c : ℕ) → ZeroOutside s k → k < c → column_total s c ≡ pos 0
unfolding column_total
column_outside s k c out lt = cells_zero s (λ i j. eqb j c) (λ i j. go i j (ℕ_discrete j c))
  where
    go : (i j : ℕ) → Dec (j ≡ c) → cond (eqb j c) (cell_of s i j) (pos 0) ≡ pos 0
    go i j (yes e) = rw (out i j (omega arith)) (zero_term (eqb j c))
    go i j (no e) = left_out_eq j c (cell_of s i j) e

-- the whole by the columns of the years 0 to k
pub all_columns_to : (s : List (List ℤ)) (k : ℕ) → k < 16 → ZeroOutside s k → all_total s ≡ sum_to (column_total s) (suc k)
all_columns_to s k lt out = all_columns s ∙ sum_to_cut (column_total s) (suc k) 16 lt (λ c l. column_outside s k c out l)

-- T_h with the diagonals before it is the columns up to it
pub corner_sums : (s : List (List ℤ)) (h : ℕ) → corner_total s h +ℤ sum_to (diagonal_total s) h ≡ sum_to (column_total s) (suc h)
unfolding sum_to
corner_sums s zero = +ℤ_idr _ ∙ corner_first s ∙ sym (+ℤ_idl _)
corner_sums s (suc h) =
    ap (λ (x : ℤ). corner_total s (suc h) +ℤ x) (+ℤ_comm (sum_to (diagonal_total s) h) (diagonal_total s h))
    ∙ sym (+ℤ_assoc (corner_total s (suc h)) (diagonal_total s h) (sum_to (diagonal_total s) h))
    ∙ ap (λ (x : ℤ). x +ℤ sum_to (diagonal_total s) h) (sym (corner_down s h))
    ∙ turn (corner_total s h) (column_total s (suc h)) (sum_to (diagonal_total s) h)
    ∙ ap (λ (x : ℤ). x +ℤ column_total s (suc h)) (corner_sums s h)
  where
    turn : (a b c : ℤ) → a +ℤ b +ℤ c ≡ a +ℤ c +ℤ b
    turn a b c = +ℤ_assoc a b c ∙ ap (λ (x : ℤ). a +ℤ x) (+ℤ_comm b c) ∙ sym (+ℤ_assoc a c b)

-- the whole by the diagonals of the years 0 to k
pub all_diagonals : (s : List (List ℤ)) (k : ℕ) → k < 16 → ZeroOutside s k → all_total s ≡ sum_to (diagonal_total s) (suc k)
unfolding sum_to
all_diagonals s k lt out =
    all_columns_to s k lt out
    ∙ sym (corner_sums s k)
    ∙ +ℤ_comm (corner_total s k) (sum_to (diagonal_total s) k)
    ∙ ap (λ (x : ℤ). sum_to (diagonal_total s) k +ℤ x) (corner_last s k out)
