-- The plot of the sums of absolute gaps by setting, on the page of HTML alone. Assumes nothing.
use Rattle.std.specs.Prelude.{ℕ, Bool, List, ℤ}
use Rattle.composing.specs.Text.{ascii}
use Rattle.parts.specs.Parts.{only}
use Rattle.plot.specs.declared.Series.{Series}
use Rattle.plot.specs.Plot.{plot}
use Rattle.hindsight_cells.specs.Cells.{settings_table}
use Rattle.hindsight_grid.specs.Grid.{grid_values}

-- its title and description, no word for the axis and no legend
unfoldable pub sums_words : List ℕ
sums_words = ascii "Sum of absolute gaps by setting\nA bar for each setting. The figures are in the table of settings.\n\n\n\n"

-- the second of the two columns of the table of settings, a dark bar for each of n rows
unfoldable pub sums_series : ℕ → Series
sums_series n = record { start = 1; stride = 2; bars = 1; split = n; slots = n }

-- the settings count from 1
unfoldable pub sums_plot : Bool → List ℤ → List ℕ → ℕ → ℕ → List ℕ
sums_plot html list settings k n = only html (plot sums_words 1 0 1 (grid_values list settings k n 0 settings_table) (sums_series n))
