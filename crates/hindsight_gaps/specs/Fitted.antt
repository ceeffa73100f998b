-- What a step of a hindsight run is given: figures that have passed question 4, and the fit of its triangle. Assumes nothing.
use Rattle.std.specs.Prelude.{ℕ, ◌+◌, ◌-◌, ◌≤◌, ◌<◌, ◌≡◌, List, ℤ, pos, ◌-ℤ◌, get_or}
use Rattle.rules.specs.Record.{most_amount}
use Rattle.rules.specs.Triangle.{paid_of}
use Rattle.rules.specs.Separation.{billion, diagonal_of, share_of}
use Rattle.rules.specs.Completion.{payment_of}
use Rattle.rules.specs.Hindsight.{kept_averages, step_mark}
use Rattle.triangle.specs.Columns.{Increments, Exposures}
use Rattle.completion.specs.Asked.{most_payment}

-- the most of a gap's size: an increment and a payment
abbrev pub most_gap : ℕ
most_gap = most_amount + most_payment

-- the last year, the exposures and the increments of a record
pub record Given (k : ℕ) (n : List ℕ) (p : List ℤ) : Type 0 where
  pub few : k < 16
  pub exposures : Exposures k n
  pub increments : Increments p

-- the fit of the step of last year h: its mark, and where that is 0 its latest level, which is the latest diagonal, and its shares
pub record Fitted (k : ℕ) (n : List ℕ) (p : List ℤ) (h mark level : ℕ) (shares : List ℕ) : Type 0 where
  pub marked : mark ≡ step_mark k n p h
  pub latest : mark ≡ 0 → level ≡ diagonal_of (kept_averages k n p h) h
  pub share : mark ≡ 0 → (j : ℕ) → j ≤ h → get_or shares j 0 ≡ share_of (kept_averages k n p h) h j
  pub mark_most : mark ≤ 10
  pub level_most : level ≤ billion
  pub share_most : (j : ℕ) → get_or shares j 0 ≤ billion

-- the gap of origin year i by these shares at this future level
unfoldable pub gap_with : ℕ → List ℕ → List ℤ → List ℕ → ℕ → ℕ → ℕ → ℤ
gap_with k n p r l h i = paid_of k p i (h + 1 - i) -ℤ pos (payment_of (get_or n i 0) (get_or r (h + 1 - i) 0) l)
