-- The sums stand in the grid of the settings, and are small enough to be plotted (sum_small). Assumes nothing.
use mathlib.Core.Path.{◌≡◌, ◌∙◌}
use mathlib.Core.List.{List}
use Prim.Native.Nat.{ℕ, ◌+◌, ◌*◌, ◌/◌, ◌%◌, ◌<◌}
use native.Mathlib.Omega.{arith}
use lib.IntN.{ℤ, pos}
use lib.ListN.{length, get_or}
use Rattle.laws.proofs.Padded.{filled_length, filled_at}
use Rattle.table_cells.specs.Cells.{most_places}
use Rattle.plot.specs.Plot.{AllPlotted}
use Rattle.hindsight_places.specs.Places.{sum_at}
use Rattle.hindsight_places.proofs.Small.{sum_small}
use Rattle.hindsight_cells.specs.Cells.{settings_table, setting_value, cell_value, rows_of, columns_of, Shown}
use Rattle.hindsight_grid.specs.Grid.{grid_values}
use Rattle.hindsight_plot.specs.Sums.{sums_series}

module _ (list : List ℤ) (settings : List ℕ) (k n : ℕ) (shown : Shown list settings k n 0) where
  -- in the second column
  sum_cell : (c : ℕ) → cell_value list settings k n 0 settings_table ((1 + c * 2) / 2) ((1 + c * 2) % 2) ≡ pos (sum_at list k c)
  unfolding cell_value setting_value
  sum_cell c =
      let row : (1 + c * 2) / 2 ≡ c = omega arith in
      let column : (1 + c * 2) % 2 ≡ 1 = omega arith in
      rw (row, column)

  pub values_length : length (grid_values list settings k n 0 settings_table) ≡ most_places
  unfolding grid_values rows_of columns_of
  values_length = filled_length most_places (pos 0) (λ p. cell_value list settings k n 0 settings_table (p / 2) (p % 2)) (n * 2) (omega (arith, shown.few))

  sum_place : (c : ℕ) → c < n → get_or (grid_values list settings k n 0 settings_table) (1 + c * 2) (pos 0) ≡ pos (sum_at list k c)
  unfolding grid_values rows_of columns_of
  sum_place c h = filled_at most_places (pos 0) (λ p. cell_value list settings k n 0 settings_table (p / 2) (p % 2)) (n * 2) (1 + c * 2) (pos 0) (omega arith) ∙ sum_cell c

  pub sums_plotted : AllPlotted (grid_values list settings k n 0 settings_table) (sums_series n)
  unfolding sums_series
  sums_plotted c h = record {
    first_inside = omega (arith, values_length, shown.few);
    second_inside = λ e. omega arith;
    first_most = rw (sum_place c h) (omega (arith, sum_small list shown.small k c));
    second_most = λ e. omega arith;
  }
