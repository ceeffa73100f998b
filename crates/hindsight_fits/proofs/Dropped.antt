-- The totals of a triangle without its latest diagonal, from those of the triangle with it. Assumes nothing.
use Prim.Native.Nat.{ℕ, suc, ◌+◌, ◌-◌, ◌≤◌, ◌<◌}
use native.Mathlib.Decide.{ℕ_discrete, dec_le, dec_lt}
use native.Mathlib.Omega.{arith}
use borrow.Author.Tests.{eq-eqb, ne_eqb}
use mathlib.Core.Path.{◌≡◌, refl, sym, ap, ap₂, ◌∙◌}
use mathlib.Core.Bool.{Bool, cond}
use mathlib.Core.List.{List}
use lib.Dec.{eqb, ltb}
use lib.IntN.{ℤ, pos, ◌+ℤ◌, ◌-ℤ◌, +ℤ_idl, +ℤ_idr}
use Rattle.rules.specs.Triangle.{cell_of, sum_to, cells_total, column_total, diagonal_total}
use Rattle.laws.proofs.Diff.{is_self, is_add, is_minus, eq_is}
use Rattle.laws.proofs.Sums.{sum_to_same, sum_to_add, sum_to_one, zero_term, left_out_eq}
use Rattle.totals.specs.Squares.{cut_of}
use Rattle.totals.proofs.Cells.{cells_zero}
use Rattle.totals.proofs.Square.{cut_inside, cut_outside}
use Rattle.totals.proofs.Walk.{column_walk, column_outside}

module _ (rows : List (List ℤ)) (h : ℕ) where
  -- the triangle of last year h, and the one with a diagonal more
  abbrev less : List (List ℤ)
  less = cut_of rows 0 h

  abbrev more : List (List ℤ)
  more = cut_of rows 0 (h + 1)

  -- a cell up to diagonal h is in both
  both : (i j : ℕ) → i + j ≤ h → cell_of more i j ≡ cell_of less i j
  both i j l = cut_inside rows 0 (h + 1) i j (omega arith) ∙ sym (cut_inside rows 0 h i j l)

  -- a cell of column j is the one of the smaller triangle, or that of the diagonal
  column_cell : (i j : ℕ) → j ≤ h + 1 → cell_of more i j ≡ cell_of less i j +ℤ cond (eqb i (h + 1 - j)) (cell_of rows i j) (pos 0)
  column_cell i j l = go (dec_le (i + j) h) (ℕ_discrete i (h + 1 - j))
    where
      go : Dec (i + j ≤ h) → Dec (i ≡ h + 1 - j) → cell_of more i j ≡ cell_of less i j +ℤ cond (eqb i (h + 1 - j)) (cell_of rows i j) (pos 0)
      go (yes a) (yes b) = absurd (omega arith)
      go (yes a) (no b) = rw (ne_eqb i (h + 1 - j) b, +ℤ_idr (cell_of less i j)) (both i j a)
      go (no a) (yes b) =
          let zero-plus : 0 + i ≡ i = omega arith in
          let cell : cell_of more i j ≡ cell_of rows i j = rw zero-plus at (cut_inside rows 0 (h + 1) i j (omega arith)) in
          rw (eq-eqb i (h + 1 - j) b, cut_outside rows 0 h i j (omega arith), +ℤ_idl (cell_of rows i j)) cell
      go (no a) (no b) = rw (ne_eqb i (h + 1 - j) b, cut_outside rows 0 h i j (omega arith)) (cut_outside rows 0 (h + 1) i j (omega arith))

  -- a column without its cell of the diagonal
  pub column_dropped : (j : ℕ) → j ≤ h + 1 → h + 1 < 16 → column_total more j -ℤ cell_of rows (h + 1 - j) j ≡ column_total less j
  column_dropped j l few =
      let cell = cell_of rows (h + 1 - j) j in
      let added : column_total more j ≡ column_total less j +ℤ cell
      = column_walk more j (omega arith)
      ∙ sum_to_same (λ i. cell_of more i j) (λ i. cell_of less i j +ℤ cond (eqb i (h + 1 - j)) (cell_of rows i j) (pos 0)) 16 (λ i r. column_cell i j l)
      ∙ sum_to_add (λ i. cell_of less i j) (λ i. cond (eqb i (h + 1 - j)) (cell_of rows i j) (pos 0)) 16
      ∙ ap₂ (λ (x y : ℤ). x +ℤ y) (sym (column_walk less j (omega arith))) (sum_to_one (λ i. cell_of rows i j) (h + 1 - j) 16 (omega arith)) in
      rw added (eq_is (is_minus (is_add (is_self (column_total less j)) (is_self cell)) (is_self cell)) (is_self (column_total less j)) (omega arith))

  -- a later column has nothing in either
  pub column_later : (j : ℕ) → h + 1 < j → column_total more j ≡ column_total less j
  column_later j l = column_outside more (h + 1) j (cut_outside rows 0 (h + 1)) l ∙ sym (column_outside less h j (cut_outside rows 0 h) (omega arith))

  -- a diagonal other than the one that is dropped
  pub diagonal_other : (g : ℕ) → (g ≡ h + 1 → ⊥) → diagonal_total more g ≡ diagonal_total less g
  unfolding diagonal_total cells_total
  diagonal_other g other = sum_to_same _ _ 16 (λ i a. sum_to_same _ _ 16 (λ j b. go i j (ℕ_discrete (i + j) g) (dec_le (i + j) h)))
    where
      go : (i j : ℕ) → Dec (i + j ≡ g) → Dec (i + j ≤ h) → cond (eqb (i + j) g) (cell_of more i j) (pos 0) ≡ cond (eqb (i + j) g) (cell_of less i j) (pos 0)
      go i j e (yes l) = ap (λ (z : ℤ). cond (eqb (i + j) g) z (pos 0)) (both i j l)
      go i j (yes e) (no l) = ap (λ (z : ℤ). cond (eqb (i + j) g) z (pos 0)) (cut_outside rows 0 (h + 1) i j (omega arith) ∙ sym (cut_outside rows 0 h i j (omega arith)))
      go i j (no e) (no l) = rw (ne_eqb (i + j) g e) refl

  -- and the one that is
  pub diagonal_dropped : pos 0 ≡ diagonal_total less (h + 1)
  unfolding diagonal_total
  diagonal_dropped = sym (cells_zero less (λ i j. eqb (i + j) (h + 1)) (λ i j. go i j (ℕ_discrete (i + j) (h + 1))))
    where
      go : (i j : ℕ) → Dec (i + j ≡ h + 1) → cond (eqb (i + j) (h + 1)) (cell_of less i j) (pos 0) ≡ pos 0
      go i j (yes e) = rw (cut_outside rows 0 h i j (omega arith)) (zero_term (eqb (i + j) (h + 1)))
      go i j (no e) = left_out_eq (i + j) (h + 1) (cell_of less i j) e
