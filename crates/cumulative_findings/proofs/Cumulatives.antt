-- The finding of question 6: the first row with a cumulative that is not from 0 to the most, and the first of it. Assumes nothing.
use mathlib.Core.Path.{◌≡◌, refl, sym, ◌∙◌}
use mathlib.Core.Bool.{true, false}
use mathlib.Core.List.{List}
use Prim.Native.Nat.{ℕ, ◌+◌, ◌-◌, ◌≤◌, ◌<◌}
use native.Mathlib.Omega.{arith}
use lib.IntN.{ℤ, pos}
use Rattle.rules.specs.Lists.{below, every}
use Rattle.rules.specs.Record.{Figures}
use Rattle.rules.specs.Triangle.{cumulative_of, row_passes, cumulatives_pass}
use Rattle.laws.proofs.Lists.{fails_at}
use Rattle.entries.proofs.Leading.{leading_stop}
use Rattle.reasons.proofs.Counted.{counted, all_pass, stops_below}
use Rattle.triangle.specs.Columns.{Increments}
use Rattle.reading.specs.Reading.{Sound}
use Rattle.finding.specs.Places.{cell, found}
use Rattle.cumulative_findings.specs.CumulativeFindings.{cell_passes, refused_row, refused_column, cumulative_finding}

module _ (k : ℕ) (p : List ℤ) where
  -- a row passes where every cell of it does
  pub row_cells : (i : ℕ) → row_passes k p i ≡ every (cell_passes k p i) (below (k + 1 - i))
  unfolding row_passes cell_passes
  row_cells i = refl

  -- where the first cell that fails is before the end, the row fails, and where it is not, the row passes
  pub row_fails : (i : ℕ) → refused_column k p i < k + 1 - i → row_passes k p i ≡ false
  unfolding refused_column
  row_fails i l = row_cells i ∙ fails_at (cell_passes k p i) (λ j. j) (k + 1 - i) _ l ((counted (cell_passes k p i) (k + 1 - i)).stop l)

  pub row_whole : (i : ℕ) → k + 1 - i ≤ refused_column k p i → row_passes k p i ≡ true
  unfolding refused_column
  row_whole i l =
      let most = (counted (cell_passes k p i) (k + 1 - i)).most in
      row_cells i ∙ all_pass (cell_passes k p i) (k + 1 - i) (omega arith)

  -- where question 6 says no, there is such a row, and in it such a cell
  pub row_below : cumulatives_pass k p ≡ false → refused_row k p < k + 1
  unfolding cumulatives_pass refused_row
  row_below f = stops_below (row_passes k p) (k + 1) f

  pub row_refused : cumulatives_pass k p ≡ false → row_passes k p (refused_row k p) ≡ false
  unfolding refused_row
  row_refused f = (counted (row_passes k p) (k + 1)).stop (row_below f)

  pub column_below : cumulatives_pass k p ≡ false → refused_column k p (refused_row k p) < k + 1 - refused_row k p
  unfolding refused_column
  column_below f = stops_below (cell_passes k p (refused_row k p)) (k + 1 - refused_row k p) (sym (row_cells (refused_row k p)) ∙ row_refused f)

  -- the finding as a loop over the rows comes to it
  pub cumulative_stop : (i j : ℕ) → i < k + 1 → every (row_passes k p) (below i) ≡ true → j ≡ refused_column k p i → j < k + 1 - i
      → (one : ℤ) → one ≡ cumulative_of k p i j → found cell i j one (pos 0) (pos 0) ≡ cumulative_finding k p
  unfolding cumulative_finding refused_row
  cumulative_stop i j l passed e m one a =
      rw (leading_stop (row_passes k p) (k + 1) i l passed (row_fails i (rw e at m)), a, e)

-- k and p, the last year and the increments of the figures f as they are read
pub found_ready : (f : Figures) → Sound f → cumulatives_pass f.k f.increments ≡ false → (k : ℕ) (p : List ℤ) → k ≡ f.k → p ≡ f.increments
    → Increments p × ((k < 16) × (cumulatives_pass k p ≡ false))
found_ready f good no6 k p ek ep = rw (ek, ep) (good.increments, (good.few, no6))

pub found_is : (f : Figures) (k : ℕ) (p : List ℤ) → k ≡ f.k → p ≡ f.increments → cumulative_finding k p ≡ cumulative_finding f.k f.increments
found_is f k p ek ep = rw (ek, ep)

-- the cumulative of the row and column that are found is not from 0 to the most, and it is a given one
pub cumulative_no : (k : ℕ) (p : List ℤ) → cumulatives_pass k p ≡ false
    → (cell_passes k p (cumulative_finding k p).row (cumulative_finding k p).column ≡ false) × ((cumulative_finding k p).row + (cumulative_finding k p).column ≤ k)
unfolding cumulative_finding refused_column
cumulative_no k p no6 =
    let i = refused_row k p in
    let l = column_below k p no6 in
    ((counted (cell_passes k p i) (k + 1 - i)).stop l, omega (arith, l, row_below k p no6))
