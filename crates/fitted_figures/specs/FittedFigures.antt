-- Fitted values: share times level by row of the triangle of the years 0 to k, from sections before them in the array xs. Assumes nothing.
use Rattle.std.specs.Prelude.{ℕ, ◌+◌, ◌-◌, ◌*◌, ◌/◌, List, ℤ, pos, nat_abs}
use Rattle.rules.specs.Lists.{up_to, joined}
use Rattle.rules.specs.Separation.{billion}
use Rattle.vectors.specs.Vectors.{figure_at}

-- n shares from place r on times the levels from place l on, rounded down
unfoldable pub products : ℕ → ℕ → ℕ → List ℤ → List ℤ
products r l n xs = up_to (λ j. pos (nat_abs (figure_at xs (r + j)) * nat_abs (figure_at xs (l + j)) / billion)) n

-- row i has the shares of the development years 0 to k − i and the levels of the payment years i to k
unfoldable pub fitted : ℕ → ℕ → ℕ → List ℤ → List ℤ
fitted k r l xs = joined (up_to (λ i. products r (l + i) (k + 1 - i) xs) (k + 1))
