-- Where question 6 says no of the increments p of the years 0 to k, and the cumulative there. Assumes nothing.
use Rattle.std.specs.Prelude.{ℕ, ◌+◌, ◌-◌, Bool, ◌&&◌, List, ℤ, pos}
use Rattle.std.specs.Int.Signed.{le_z}
use Rattle.rules.specs.Triangle.{cumulative_of, most_cumulative, row_passes}
use Rattle.entries.specs.Leading.{leading}
use Rattle.finding.specs.Places.{cell, found}
use Rattle.finding.specs.declared.Finding.{Finding}

-- whether C_ij is from 0 to 10^11
unfoldable pub cell_passes : ℕ → List ℤ → ℕ → ℕ → Bool
cell_passes k p i j = le_z (pos 0) (cumulative_of k p i j) && le_z (cumulative_of k p i j) (pos most_cumulative)

-- the first row with a cell of which question 6 says no, k + 1 where there is none; and the first such cell of row i, k + 1 − i where there is none
unfoldable pub refused_row : ℕ → List ℤ → ℕ
refused_row k p = leading (row_passes k p) (k + 1)

unfoldable pub refused_column : ℕ → List ℤ → ℕ → ℕ
refused_column k p i = leading (cell_passes k p i) (k + 1 - i)

-- 6: the first such cell by row, and its cumulative
unfoldable pub cumulative_finding : ℕ → List ℤ → Finding
cumulative_finding k p =
    let i = refused_row k p in
    let j = refused_column k p i in
    found cell i j (cumulative_of k p i j) (pos 0) (pos 0)
