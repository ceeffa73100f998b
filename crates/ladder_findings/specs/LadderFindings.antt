-- Where question 14 says no, and the figures there: the first completed cumulative above the most, by rows. c are the paid cumulatives and m the development factors.
-- Assumes nothing.
use Rattle.std.specs.Prelude.{ℕ, suc, ◌+◌, ◌-◌, ◌≤◌, ◌<◌, ◌≡◌, List, leb, pos, get_or}
use Rattle.rules.specs.Lists.{every}
use Rattle.rules.specs.Record.{Figures}
use Rattle.rules.specs.Triangle.{most_cumulative}
use Rattle.rules.specs.Ladder.{most_factor, completed, completed_row}
use Rattle.rules.specs.Results.{paid_in, development_in}
use Rattle.entries.specs.Leading.{leading}
use Rattle.finding.specs.Places.{cell, found}
use Rattle.finding.specs.declared.Finding.{Finding}
use Rattle.ladder_findings.specs.declared.Past.{Past}

-- the first of the years 0 to k whose row has a completed C above the most; k + 1 where there is none
unfoldable pub first_row_over : ℕ → List ℕ → List ℕ → ℕ
first_row_over k c m = leading (λ i. every (λ x. leb x most_cumulative) (completed_row k c m i)) (k + 1)

-- how many years past the diagonal the cumulatives of row i are within the most before the first that is not; i where there is none
unfoldable pub years_within : ℕ → List ℕ → List ℕ → ℕ → ℕ
years_within k c m i = leading (λ t. leb (completed k c m i (suc t)) most_cumulative) i

-- of that row and the cell after these years: the cumulative before it, the development factor and the completed cumulative
unfoldable pub cell_finding : ℕ → List ℕ → List ℕ → Finding
cell_finding k c m =
    let i = first_row_over k c m in
    let t = years_within k c m i in
    found cell i (k - i + t + 1) (pos (completed k c m i t)) (pos (get_or m (k - i + t) 0)) (pos (completed k c m i (suc t)))

-- 14, of the figures f
unfoldable pub completed_finding : Figures → Finding
completed_finding f = cell_finding f.k (paid_in f) (development_in f)

-- paid cumulatives and development factors of the years 0 to k within their limits
pub record Developing (k : ℕ) (c m : List ℕ) : Type 0 where
  pub few : k < 16
  pub paid : (i : ℕ) → get_or c i 0 ≤ most_cumulative
  pub factors : (h : ℕ) → get_or m h 0 ≤ most_factor

-- these years of row i, and the cumulative after them, which is within the most
pub record Walked (k : ℕ) (c m : List ℕ) (i : ℕ) (x : Past) : Type 0 where
  pub years : x.years ≡ years_within k c m i
  pub last : x.last ≡ completed k c m i (years_within k c m i)
  pub most : x.last ≤ most_cumulative
