-- The width of a table of the report in characters. Assumes nothing.
use Rattle.std.specs.Prelude.{ℕ, ◌+◌, max, List, ℤ}
use Rattle.rules.specs.Lists.{total as sum, up_to}
use Rattle.table_cells.specs.Cells.{column_places}

-- the width in characters of a table of n rows, by which the style chooses the size of the letters
unfoldable pub measure : List ℤ → List ℕ → ℕ → ℕ → ℕ
measure values styles columns n = 6 + sum (up_to (λ j. 2 + max 4 (column_places values styles columns n j)) columns)
