-- The sums A and B of each development year from the column sums v of the given cumulatives and the paid cumulatives c by row. Assumes nothing.
use Rattle.std.specs.Prelude.{ℕ, ◌+◌, ◌-◌, ◌*◌, ◌≤◌, ◌<◌, List, get_or}
use Rattle.rules.specs.Triangle.{most_cumulative}

-- A of year h: the whole column h + 1
unfoldable pub developed_in : List ℕ → ℕ → ℕ
developed_in v h = get_or v (h + 1) 0

-- B of year h: column h but for its last row, k − h, whose cumulative is its paid one
unfoldable pub base_in : ℕ → List ℕ → List ℕ → ℕ → ℕ
base_in k v c h = get_or v h 0 - get_or c (k - h) 0

-- column sums and paid cumulatives of the years 0 to k
pub record Ladderable (k : ℕ) (v c : List ℕ) : Type 0 where
  pub few : k < 16
  pub columns : (h : ℕ) → get_or v h 0 ≤ 16 * most_cumulative
  pub paid : (h : ℕ) → h < k → get_or c (k - h) 0 ≤ get_or v h 0
