-- How large a cell of a square may be, and a total of its cells; so that no sum of them leaves 64 bits. Assumes nothing.
use Rattle.std.specs.Prelude.{ℕ, ◌*◌, ◌≤◌, List, ℤ, pos, nat_abs, get_or}
use Rattle.rules.specs.Record.{most_amount}
use Rattle.rules.specs.Triangle.{cell_of}

-- the most of an average's size: 100 × 10^10 over one claim
abbrev pub most_average : ℕ
most_average = 100 * most_amount

-- no cell's size is above most_average
abbrev pub Cells : List (List ℤ) → Type 0
Cells s = (i j : ℕ) → nat_abs (cell_of s i j) ≤ most_average

-- the most of a total of cells: a square has 256
abbrev pub most_total : ℕ
most_total = 256 * most_average

-- no total's size is above most_total
abbrev pub TotalsSmall : List ℤ → Type 0
TotalsSmall v = (a : ℕ) → nat_abs (get_or v a (pos 0)) ≤ most_total
