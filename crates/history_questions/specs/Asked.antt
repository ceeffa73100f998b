-- What questions 27 and 28 have shown of a history where they say yes. Assumes nothing.
use Rattle.std.specs.Prelude.{ℕ, ◌≤◌, ◌<◌, ◌≡◌, List, ℤ, length, get_or}
use Rattle.rules.specs.Record.{million}
use Rattle.triangle.specs.Columns.{Increments}
use Rattle.rules.specs.History.{most_history, least_width, most_width, history_cells, history_count}

-- every exposure is from 1 to 1,000,000
abbrev pub Claims : ℕ → List ℕ → Type 0
Claims years n = (i : ℕ) → i < years → (1 ≤ get_or n i 0) × (get_or n i 0 ≤ million)

-- 27
pub record Widths (years width : ℕ) : Type 0 where
  pub few : years ≤ most_history
  pub wide : least_width ≤ width
  pub narrow : width ≤ most_width
  pub within : width ≤ years

-- 28, of a lent result of m entries
pub record History (years width : ℕ) (n : List ℕ) (p : List ℤ) (m : ℕ) : Type 0 where
  pub exposures : length n ≡ years
  pub cells : length p ≡ history_cells years
  pub entries : m ≡ history_count years width
  pub claims : Claims years n
  pub amounts : Increments p
