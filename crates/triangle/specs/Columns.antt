-- What question 4 has shown of the increments and exposures, the sums of the columns of the given cumulatives row by row, and how many rows pass question 6.
-- Assumes nothing.
use Rattle.std.specs.Prelude.{ℕ, ◌+◌, ◌≤◌, cond, List, leb, ℤ, pos, nat_abs, get_or}
use Rattle.rules.specs.Lists.{total, up_to}
use Rattle.rules.specs.Triangle.{row_passes, given_cumulative}
use Rattle.entries.specs.Leading.{leading}
use Rattle.rules.specs.Record.{million, most_amount}

-- C_ij where it is given, and zero past the diagonal
unfoldable pub cumulative_in : ℕ → List ℤ → ℕ → ℕ → ℕ
cumulative_in k p i j = cond (leb (i + j) k) (given_cumulative k p i j) 0

-- the sum of column j over the first rows
unfoldable pub column_sum : ℕ → List ℤ → ℕ → ℕ → ℕ
column_sum k p rows j = total (up_to (λ i. cumulative_in k p i j) rows)

-- how many rows pass question 6 before the first that does not
unfoldable pub rows_passing : ℕ → List ℤ → ℕ
rows_passing k p = leading (row_passes k p) (k + 1)

-- no increment's size is above 10^10
abbrev pub Increments : List ℤ → Type 0
Increments p = (i : ℕ) → nat_abs (get_or p i (pos 0)) ≤ most_amount

-- the exposures of the years 0 to k are from 1 to 1,000,000
abbrev pub Exposures : ℕ → List ℕ → Type 0
Exposures k n = (i : ℕ) → i ≤ k → (1 ≤ get_or n i 0) × (get_or n i 0 ≤ million)
