-- How long the tables and the plot of a hindsight run are at most. Assumes nothing.
use mathlib.Core.Path.{◌≡◌, refl}
use mathlib.Core.Bool.{Bool, true, false}
use mathlib.Core.List.{List, []}
use Prim.Native.Nat.{ℕ, ◌+◌, ◌≤◌}
use native.Mathlib.Omega.{arith}
use lib.Dec.{leb}
use lib.IntN.{ℤ}
use lib.ListN.{length}
use borrow.Author.Tests.{leb-true}
use Rattle.rules.specs.Lists.{up_to, joined, every, below}
use Rattle.rules.specs.Hindsight.{most_settings}
use Rattle.laws.proofs.Lists.{every_up_to}
use Rattle.composing.specs.Text.{decimal_in, decimal}
use Rattle.lines.proofs.Longest.{longest_from}
use Rattle.parts.proofs.Lengths.{only_most}
use Rattle.table_heads.specs.Heads.{rows_in}
use Rattle.table_lengths.proofs.Most.{table_most}
use Rattle.table_lengths.proofs.Tables.{table_most_lem}
use Rattle.plot.specs.Plot.{plot}
use Rattle.plot_lengths.proofs.Plots.{plot_most_lem}
use Rattle.hindsight_cells.specs.Cells.{settings_table, steps_table, gaps_table, rows_of, columns_of, Shown}
use Rattle.hindsight_cells.proofs.Sizes.{rows_most, columns_most}
use Rattle.hindsight_grid.specs.Grid.{grid_values, grid_styles}
use Rattle.hindsight_heads.specs.Heads.{setting_head, steps_words}
use Rattle.hindsight_tables.specs.Tables.{grid_shape, grid_table, settings_words, settings_rows, steps_rows, gaps_words, gaps_rows}
use Rattle.hindsight_plot.specs.Sums.{sums_words, sums_series, sums_plot}
use Rattle.hindsight_plot.proofs.Plotted.{sums_plotted}

-- one table
grid_most : (html : Bool) (words : List ℕ) (years label : ℕ) (list : List ℤ) (settings : List ℕ) (k n a t rows columns b : ℕ)
    → rows_of t k n ≤ rows → columns_of t k n ≤ columns → table_most words [] [] rows columns ≤ b
    → length (grid_table html words years label list settings k n a t) ≤ b
unfolding grid_table grid_shape rows_in
grid_most html words years label list settings k n a t rows columns b h l most =
    omega
    (arith, table_most_lem html false words [] [] (grid_shape k n t years label) (grid_values list settings k n a t) (grid_styles list k n t) rows columns (omega arith) (omega arith))

-- the words of the steps, of any number of settings
steps_words_lem : every (λ n. leb (table_most (steps_words n) [] [] 14 9) 15000) (below 9) ≡ true
unfolding every up_to joined table_most longest_from steps_words setting_head decimal decimal_in
steps_words_lem = refl

steps_words_most : (n : ℕ) → n ≤ most_settings → table_most (steps_words n) [] [] 14 9 ≤ 15000
steps_words_most n few =
    leb-true (table_most (steps_words n) [] [] 14 9) 15000 (every_up_to (λ m. leb (table_most (steps_words m) [] [] 14 9) 15000) (λ i. i) 9 n steps_words_lem (omega arith))

module _ (html : Bool) (first k n a : ℕ) (settings : List ℕ) (list : List ℤ) (shown : Shown list settings k n a) where
  pub settings_rows_most : length (settings_rows html list settings k n) ≤ 3000
  unfolding settings_rows settings_words table_most longest_from rows_of columns_of
  settings_rows_most = grid_most html settings_words 0 1 list settings k n 0 settings_table 8 2 3000 shown.few (omega arith) (omega arith)

  pub steps_rows_most : length (steps_rows html first list settings k n) ≤ 15000
  unfolding steps_rows columns_of
  steps_rows_most =
      grid_most html (steps_words n) 0 (first + 2) list settings k n 0 steps_table 14 9 15000 (rows_most steps_table k n shown.known shown.few) (omega (arith, shown.few)) (steps_words_most n shown.few)

  pub gaps_rows_most : length (gaps_rows html first list settings k n a) ≤ 25000
  unfolding gaps_rows gaps_words table_most longest_from
  gaps_rows_most =
      grid_most html gaps_words k (first + 1) list settings k n a gaps_table 14 15 25000 (rows_most gaps_table k n shown.known shown.few) (columns_most gaps_table k n shown.known shown.few) (omega arith)

  pub sums_plot_most : Shown list settings k n 0 → length (sums_plot html list settings k n) ≤ 5000
  unfolding sums_plot sums_words sums_series
  sums_plot_most first-shown =
      omega
      (arith, only_most html (plot sums_words 1 0 1 (grid_values list settings k n 0 settings_table) (sums_series n)), plot_most_lem 1 0 1 (grid_values list settings k n 0 settings_table) (sums_series n) (omega arith) (omega arith) (omega arith) (omega (arith, shown.few)) (sums_plotted list settings k n first-shown) sums_words, shown.few)
