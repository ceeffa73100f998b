-- Totals of the cells of a square that pass a test: two tests compared cell by cell, no cell left, and how large they are. Assumes nothing.
use mathlib.Core.Path.{◌≡◌, sym, ◌∙◌}
use mathlib.Core.Bool.{Bool, true, false, cond}
use mathlib.Core.List.{List}
use Prim.Native.Nat.{ℕ, ◌+◌, ◌*◌, ◌≤◌}
use native.Mathlib.Omega.{arith}
use lib.IntN.{ℤ, pos, nat_abs, ◌+ℤ◌}
use Rattle.rules.specs.Triangle.{cell_of, sum_to, cells_total}
use Rattle.laws.proofs.Sums.{sum_to_same, sum_to_add, sum_to_zero}
use Rattle.laws.proofs.Adding.{sum_to_size}
use Rattle.totals.specs.CellSizes.{most_average, Cells, most_total}

-- what a cell adds to a total
abbrev pub cells_passing : List (List ℤ) → (ℕ → ℕ → Bool) → ℕ → ℕ → ℤ
cells_passing s p i j = cond (p i j) (cell_of s i j) (pos 0)

module _ (s : List (List ℤ)) where
  -- tests that agree on every cell
  pub cells_same : (p q : ℕ → ℕ → Bool) → ((i j : ℕ) → cells_passing s p i j ≡ cells_passing s q i j) → cells_total p s ≡ cells_total q s
  unfolding cells_total
  cells_same p q e = sum_to_same _ _ 16 (λ i l. sum_to_same _ _ 16 (λ j m. e i j))

  -- a test that leaves nothing
  pub cells_zero : (p : ℕ → ℕ → Bool) → ((i j : ℕ) → cells_passing s p i j ≡ pos 0) → cells_total p s ≡ pos 0
  unfolding cells_total
  cells_zero p e = sum_to_zero _ 16 (λ i l. sum_to_zero _ 16 (λ j m. e i j))

  -- the total of two tests
  cells_add : (p q : ℕ → ℕ → Bool) → cells_total p s +ℤ cells_total q s ≡ sum_to (λ i. sum_to (λ j. cells_passing s p i j +ℤ cells_passing s q i j) 16) 16
  unfolding cells_total
  cells_add p q = sym (sum_to_same _ _ 16 (λ i l. sum_to_add (cells_passing s p i) (cells_passing s q i) 16) ∙ sum_to_add _ _ 16)

  -- two pairs of tests that pass each cell equally often
  pub cells_pairs : (p q p' q' : ℕ → ℕ → Bool) →
      ((i j : ℕ) → cells_passing s p i j +ℤ cells_passing s q i j ≡ cells_passing s p' i j +ℤ cells_passing s q' i j) →
      cells_total p s +ℤ cells_total q s ≡ cells_total p' s +ℤ cells_total q' s
  cells_pairs p q p' q' e = cells_add p q ∙ sum_to_same _ _ 16 (λ i l. sum_to_same _ _ 16 (λ j m. e i j)) ∙ sym (cells_add p' q')

  -- no total of cells is large
  pub cells_size : Cells s → (p : ℕ → ℕ → Bool) → nat_abs (cells_total p s) ≤ most_total
  unfolding cells_total
  cells_size cells p =
      omega (arith, sum_to_size (λ i. sum_to (cells_passing s p i) 16) (16 * most_average) (λ i. sum_to_size (cells_passing s p i) most_average (λ j. go (p i j) (cell_of s i j) (cells i j)) 16) 16)
    where
      go : (b : Bool) (z : ℤ) → nat_abs z ≤ most_average → nat_abs (cond b z (pos 0)) ≤ most_average
      go true z h = h
      go false z h = omega arith
