-- The cells of a square inside its triangle, and the cells outside of it; those of a square cut out of rows, and of the averages. Assumes nothing.
use mathlib.Core.Path.{◌≡◌, refl, ap}
use mathlib.Core.List.{List, []}
use Prim.Native.Nat.{ℕ, ◌+◌, ◌-◌, ◌≤◌, ◌<◌, zero-le}
use native.Mathlib.Decide.{dec_le}
use native.Mathlib.Omega.{arith}
use lib.IntN.{ℤ, pos, nat_abs}
use lib.ListN.{get_or, replicate}
use Rattle.rules.specs.Lists.{up_to, padded}
use Rattle.rules.specs.Triangle.{paid_of, average_of, average_row, averages_of, cell_of, ZeroOutside}
use Rattle.laws.proofs.Lists.{up_to_ext}
use Rattle.laws.proofs.Padded.{same_all, filled_at, filled_past}
use Rattle.totals.specs.CellSizes.{most_average, Cells}
use Rattle.totals.specs.Squares.{square_with, cut_of}

module _ (k : ℕ) (f : ℕ → ℕ → ℤ) where
  -- row i
  abbrev row : ℕ → List ℤ
  row i = padded 16 (pos 0) (up_to (f i) (k + 1 - i))

  row_is : (i : ℕ) → i ≤ k → get_or (square_with k f) i [] ≡ row i
  row_is i h = filled_at 16 (replicate 16 (pos 0)) row (k + 1) i [] (omega arith)

  -- the cell in row i and column j of the triangle
  pub inside : (i j : ℕ) → i + j ≤ k → cell_of (square_with k f) i j ≡ f i j
  unfolding cell_of
  inside i j h = rw (row_is i (omega arith)) (filled_at 16 (pos 0) (f i) (k + 1 - i) j (pos 0) (omega arith))

  -- past a row's end, and in a row past the last
  past_row : (i j : ℕ) → i ≤ k → k < i + j → cell_of (square_with k f) i j ≡ pos 0
  unfolding cell_of
  past_row i j a h = rw (row_is i a) (filled_past 16 (pos 0) (f i) (λ z. z ≡ pos 0) (pos 0) refl refl (k + 1 - i) j (omega arith))

  past_last : (i j : ℕ) → k < i → cell_of (square_with k f) i j ≡ pos 0
  unfolding cell_of
  past_last i j h =
      filled_past 16 (replicate 16 (pos 0)) row (λ r. get_or r j (pos 0) ≡ pos 0) [] (same_all (λ z. z ≡ pos 0) (pos 0) (pos 0) refl refl 16 j) refl (k + 1) i (omega arith)

  -- outside the triangle every cell is zero
  pub outside : (i j : ℕ) → k < i + j → cell_of (square_with k f) i j ≡ pos 0
  outside i j h = go (dec_le i k)
    where
      go : Dec (i ≤ k) → cell_of (square_with k f) i j ≡ pos 0
      go (yes a) = past_row i j a h
      go (no a) = past_last i j (omega arith)

-- equal cells make equal squares
pub square_same : (k : ℕ) (f g : ℕ → ℕ → ℤ) → ((i j : ℕ) → i + j ≤ k → f i j ≡ g i j) → square_with k f ≡ square_with k g
square_same k f g e =
    ap (padded 16 (replicate 16 (pos 0)))
    (up_to_ext _ _ (k + 1) (λ i h. ap (padded 16 (pos 0)) (up_to_ext (f i) (g i) (k + 1 - i) (λ j l. e i j (omega arith)))))

module _ (rows : List (List ℤ)) (a k : ℕ) where
  pub cut_inside : (i j : ℕ) → i + j ≤ k → cell_of (cut_of rows a k) i j ≡ cell_of rows (a + i) j
  unfolding cut_of
  cut_inside i j h = inside k (λ i j. cell_of rows (a + i) j) i j h

  pub cut_outside : ZeroOutside (cut_of rows a k) k
  unfolding cut_of
  cut_outside i j h = outside k (λ i j. cell_of rows (a + i) j) i j h

  -- no cell is larger than those of the rows
  pub cut_cells : Cells rows → Cells (cut_of rows a k)
  cut_cells small i j = go (dec_le (i + j) k)
    where
      go : Dec (i + j ≤ k) → nat_abs (cell_of (cut_of rows a k) i j) ≤ most_average
      go (yes h) = rw (cut_inside i j h) (small (a + i) j)
      go (no h) = rw (cut_outside i j (omega arith)) zero-le

module _ (k : ℕ) (n : List ℕ) (p : List ℤ) where
  -- the averages are the square with the average of P_ij over n_i in row i and column j
  pub averages_are : averages_of k n p ≡ square_with k (λ i j. average_of (paid_of k p i j) (get_or n i 0))
  unfolding averages_of average_row
  averages_are = refl

  pub cell_inside : (i j : ℕ) → i + j ≤ k → k < 16 → cell_of (averages_of k n p) i j ≡ average_of (paid_of k p i j) (get_or n i 0)
  cell_inside i j h l = rw averages_are (inside k (λ i j. average_of (paid_of k p i j) (get_or n i 0)) i j h)

  pub zero_outside : k < 16 → (i j : ℕ) → k < i + j → cell_of (averages_of k n p) i j ≡ pos 0
  zero_outside l i j h = rw averages_are (outside k (λ i j. average_of (paid_of k p i j) (get_or n i 0)) i j h)
