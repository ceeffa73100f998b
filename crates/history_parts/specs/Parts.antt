-- The parts of a history's numbers as its text has them: after its years the width, the exposures, and the increments by row. Assumes nothing.
use Rattle.std.specs.Prelude.{ℕ, ◌+◌, List, ℤ, pos, nat_abs, get_or}
use Rattle.rules.specs.Lists.{up_to}
use Rattle.rules.specs.History.{history_cells}

-- the width
unfoldable pub width_in : List ℤ → ℕ
width_in vs = nat_abs (get_or vs 1 (pos 0))

-- the exposures of so many origin years
unfoldable pub exposures_after : ℕ → List ℤ → List ℕ
exposures_after years vs = up_to (λ i. nat_abs (get_or vs (2 + i) (pos 0))) years

-- their increments by row
unfoldable pub increments_after : ℕ → List ℤ → List ℤ
increments_after years vs = up_to (λ i. get_or vs (2 + years + i) (pos 0)) (history_cells years)
