-- A plot of two columns of figures of the report, two bars a year. Assumes nothing.
use Rattle.std.specs.Prelude.{ℕ, ◌+◌, ◌≤◌, Bool, List, ℤ}
use Rattle.parts.specs.Parts.{only}
use Rattle.signed_sums.specs.Small.{Sized}
use Rattle.table_cells.specs.Cells.{plain, styled}
use Rattle.vectors.specs.Vectors.{most_figures}
use Rattle.placing.specs.Placing.{Grid, blank, placed_as}
use Rattle.axis.specs.Axis.{most_plotted, most_one}
use Rattle.plot.specs.declared.Series.{Series}
use Rattle.plot.specs.Plot.{plot}

-- n figures from place a on and n from place b on, beside each other
unfoldable pub placed_pair : ℕ → ℕ → ℕ → List ℤ → Grid → Grid
placed_pair n a b xs g = placed_as (styled plain 0) 1 2 b n xs (placed_as (styled plain 0) 0 2 a n xs g)

-- two bars for each of n rows of two columns
unfoldable pub pair_series : ℕ → Series
pair_series n = record { start = 0; stride = 2; bars = 2; split = 0; slots = n }

-- dark bars for the figures from place a on, light ones for those from place b on, on the page of HTML alone
unfoldable pub column_plot : Bool → List ℕ → ℕ → ℕ → ℕ → ℕ → ℕ → ℕ → List ℤ → List ℕ
column_plot html words one d first n a b xs = only html (plot words one d first (placed_pair n a b xs blank).values (pair_series n))

-- what is asked of a column of n figures from place a on
pub record Drawn (n a : ℕ) (xs : List ℤ) : Type 0 where
  pub inside : a + n ≤ most_figures
  pub small : Sized most_plotted a n xs

-- and of the plot
pub record Scaled (one first n : ℕ) : Type 0 where
  pub one_least : 1 ≤ one
  pub one_most : one ≤ most_one
  pub first_most : first ≤ 100000
  pub rows_most : n ≤ 32
