-- What the settings of a hindsight run are given: the fit of every step, largest triangle first. Assumes nothing.
use Rattle.std.specs.Prelude.{ℕ, ◌-◌, ◌*◌, ◌<◌, List, [], ℤ, get_or}
use Rattle.hindsight_gaps.specs.Fitted.{most_gap, Fitted}

-- the fit of the step of last year k − 1 − m stands at place m
abbrev pub AllFitted : ℕ → List ℕ → List ℤ → List ℕ → List ℕ → List (List ℕ) → Type 0
AllFitted k n p marks levels shares = (m : ℕ) → m < k - 1 → Fitted k n p (k - 1 - m) (get_or marks m 0) (get_or levels m 0) (get_or shares m [])

-- the most of a setting's sum: a triangle of sixteen years has 105 gaps
abbrev pub most_sum : ℕ
most_sum = 105 * most_gap
