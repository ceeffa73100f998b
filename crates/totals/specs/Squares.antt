-- Squares that are zero outside a triangle. Assumes nothing.
use Rattle.std.specs.Prelude.{ℕ, ◌+◌, ◌-◌, List, ℤ, pos, replicate}
use Rattle.rules.specs.Lists.{up_to, padded}
use Rattle.rules.specs.Triangle.{cell_of}

-- f i j in row i and column j of the triangle of the years 0 to k, in sixteen rows of sixteen, zero outside
abbrev pub square_with : ℕ → (ℕ → ℕ → ℤ) → List (List ℤ)
square_with k f = padded 16 (replicate 16 (pos 0)) (up_to (λ i. padded 16 (pos 0) (up_to (f i) (k + 1 - i))) (k + 1))

-- the square cut out of rows: those from a on as its rows 0 to k, of each the cells of the triangle
unfoldable pub cut_of : List (List ℤ) → ℕ → ℕ → List (List ℤ)
cut_of rows a k = square_with k (λ i j. cell_of rows (a + i) j)
