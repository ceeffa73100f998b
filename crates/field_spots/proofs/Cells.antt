-- The cell of the triangle at a place among the cells by row. Assumes nothing.
use Prim.Native.Nat.{ℕ, zero, suc, ◌+◌, ◌-◌, ◌≤◌, ◌<◌}
use native.Mathlib.Decide.{dec_lt}
use native.Mathlib.Numerals.{add-one}
use native.Mathlib.Omega.{arith}
use borrow.Author.Tests.{leb-true, leb-false}
use mathlib.Core.Path.{◌≡◌}
use mathlib.Core.Bool.{Bool, true}
use lib.Dec.{leb}
use Rattle.rules.specs.Lists.{below, every}
use Rattle.rules.specs.Record.{cells}
use Rattle.rules.specs.Triangle.{row_start}
use Rattle.laws.proofs.Lists.{every_up_to}
use Rattle.laws.proofs.TriangleRows.{row_start_more, rows_all}
use Rattle.reasons.proofs.Counted.{Counted, counted}
use Rattle.field_spots.specs.Spots.{cell_row}

-- cell m stands in row i: in its column j, with i + j at most k
pub record CellAt (k m i : ℕ) : Type 0 where
  pub row : i ≤ k
  pub start : row_start k i ≤ m
  pub place : row_start k i + (m - row_start k i) ≡ m
  pub column : i + (m - row_start k i) ≤ k

module _ (k m : ℕ) where
  -- whether row i ends before cell m
  abbrev pub ends : ℕ → Bool
  ends i = leb (row_start k (i + 1)) m

  -- where the rows before row i do, row i starts there or before
  pub starts_before : (i : ℕ) → every ends (below i) ≡ true → row_start k i ≤ m
  unfolding row_start
  starts_before zero e = omega arith
  starts_before (suc i) e = rw (add-one i) at (leb-true (row_start k (i + 1)) m (every_up_to ends (λ i. i) (suc i) i e (omega arith)))

  -- the row that holds it ends after it
  ends_after : m < cells k → Counted ends k → m < row_start k (cell_row k m + 1)
  unfolding cell_row
  ends_after l c = go (dec_lt (cell_row k m) k)
    where
      go : Dec (cell_row k m < k) → m < row_start k (cell_row k m + 1)
      go (yes h) = leb-false (row_start k (cell_row k m + 1)) m (c.stop h)
      go (no h) =
          let last : cell_row k m ≡ k = omega (arith, c.most) in
          rw last (omega (arith, rows_all k))

  pub cell_at : m < cells k → CellAt k m (cell_row k m)
  unfolding cell_row
  cell_at l =
      let c = counted ends k in
      let i = cell_row k m in
      let before = starts_before i c.before in
      let after = ends_after l c in
      let more = row_start_more k i in
      record { row = c.most; start = before; place = omega arith; column = omega (arith, c.most) }
