-- Cells of the tables of a hindsight run: of its settings, of its steps, and of the gaps of one setting. Rows and columns count from 0. Assumes nothing.
use Rattle.std.specs.Prelude.{ℕ, ◌+◌, ◌-◌, ◌≤◌, ◌<◌, Bool, false, cond, List, eqb, ltb, ℤ, pos, get_or}
use Rattle.rules.specs.Hindsight.{most_settings}
use Rattle.table_cells.specs.Cells.{plain, styled}
use Rattle.hindsight_places.specs.Places.{LastYear, mark_at, marked, gap_at, sum_at, GapsSmall, SettingsSmall}
use Rattle.hindsight_steps.specs.Steps.{step_sum}

-- Setting i: its index, with six decimals, and its sum of absolute gaps.

unfoldable pub setting_value : List ℤ → List ℕ → ℕ → ℕ → ℕ → ℤ
setting_value list settings k i j = cond (eqb j 0) (pos (get_or settings i 0)) (pos (sum_at list k i))

unfoldable pub setting_style : ℕ → ℕ
setting_style j = cond (eqb j 0) (styled plain 6) (styled plain 0)

-- Step i + 1: its sum of absolute gaps with each of n settings, and then its mark. The sums of a marked step are blank, and so is the mark of any other.

unfoldable pub step_value : List ℤ → ℕ → ℕ → ℕ → ℕ → ℤ
step_value list k n i j = cond (eqb j n) (pos (mark_at list k (i + 1))) (pos (step_sum list k j (i + 1)))

unfoldable pub step_style : List ℤ → ℕ → ℕ → ℕ → ℕ → ℕ
step_style list k n i j = cond (marked list k (i + 1)) (cond (eqb j n) (styled plain 0) 0) (cond (eqb j n) 0 (styled plain 0))

-- Origin year i + 1, development year j: the gap of step i + j with setting a, where there is one and the step is not marked.

-- whether there is a forecast: from development year 1 on, up to the record's last payment year
unfoldable pub forecast_at : ℕ → ℕ → ℕ → Bool
forecast_at k i j = cond (eqb j 0) false (ltb (i + j) k)

unfoldable pub gap_value : List ℤ → ℕ → ℕ → ℕ → ℕ → ℤ
gap_value list k a i j = cond (forecast_at k i j) (gap_at list k a (i + j) (i + 1)) (pos 0)

unfoldable pub gap_style : List ℤ → ℕ → ℕ → ℕ → ℕ
gap_style list k i j = cond (forecast_at k i j) (cond (marked list k (i + j)) 0 (styled plain 0)) 0

-- The tables by their numbers.

abbrev pub settings_table : ℕ
settings_table = 0

abbrev pub steps_table : ℕ
steps_table = 1

abbrev pub gaps_table : ℕ
gaps_table = 2

-- the value and the style of a cell of table t
unfoldable pub cell_value : List ℤ → List ℕ → ℕ → ℕ → ℕ → ℕ → ℕ → ℕ → ℤ
cell_value list settings k n a t i j =
    cond (eqb t settings_table) (setting_value list settings k i j) (cond (eqb t steps_table) (step_value list k n i j) (gap_value list k a i j))

unfoldable pub cell_style : List ℤ → ℕ → ℕ → ℕ → ℕ → ℕ → ℕ
cell_style list k n t i j = cond (eqb t settings_table) (setting_style j) (cond (eqb t steps_table) (step_style list k n i j) (gap_style list k i j))

-- its rows: the settings, or the steps or origin years 1 to k − 1
unfoldable pub rows_of : ℕ → ℕ → ℕ → ℕ
rows_of t k n = cond (eqb t settings_table) n (k - 1)

-- and its columns: index and sum; the settings and the mark; development years 0 to k − 1
unfoldable pub columns_of : ℕ → ℕ → ℕ → ℕ
columns_of t k n = cond (eqb t settings_table) 2 (cond (eqb t steps_table) (n + 1) k)

-- what is asked of n settings and of the one whose gaps are shown, and of the report's entries
pub record Shown (list : List ℤ) (settings : List ℕ) (k n a : ℕ) : Type 0 where
  pub known : LastYear k
  pub few : n ≤ most_settings
  pub one : a < most_settings
  pub indices : SettingsSmall settings n
  pub small : GapsSmall list
