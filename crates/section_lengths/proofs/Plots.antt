-- How long a plot of two columns of the report's figures is at most. Assumes nothing.
use mathlib.Core.Bool.{Bool}
use mathlib.Core.List.{List}
use Prim.Native.Nat.{ℕ, ◌+◌, ◌*◌, ◌≤◌, ◌<◌}
use native.Mathlib.Nat.{mul-le-mul_left}
use native.Mathlib.Omega.{arith}
use lib.IntN.{ℤ}
use lib.ListN.{length}
use Rattle.parts.specs.Parts.{only}
use Rattle.parts.proofs.Lengths.{only_most}
use Rattle.axis.specs.Axis.{most_one}
use Rattle.plot.specs.declared.Series.{Series}
use Rattle.plot.specs.Plot.{plot, AllPlotted}
use Rattle.plot_lengths.proofs.Plots.{slot_most, plot_most_lem}
use Rattle.placing.specs.Placing.{blank}
use Rattle.figure_places.specs.Places.{added_at}
use Rattle.page_figures.specs.Given.{Figured}
use Rattle.column_plot.specs.ColumnPlot.{placed_pair, pair_series, column_plot}
use Rattle.column_plot.proofs.Pairs.{pair_plotted}
use Rattle.column_plot.proofs.Places.{drawn}

-- the most of a plot of so many slots
abbrev pub plot_most : List ℕ → ℕ → ℕ → ℕ
plot_most words d slots = 1263 + 6 * length words + slot_most d * slots

-- a plot on the page of HTML alone, of at most m slots
pub only_plot_most : (html : Bool) (words : List ℕ) (one d first : ℕ) (values : List ℤ) (s : Series) (m n : ℕ) → 1 ≤ one → one ≤ most_one → first ≤ 100000 → s.slots ≤ m → m ≤ 32
    → AllPlotted values s → plot_most words d m ≤ n → length (only html (plot words one d first values s)) ≤ n
only_plot_most html words one d first values s m n h l f few most p big =
    omega
    (arith, only_most html (plot words one d first values s), plot_most_lem one d first values s h l f (omega arith) p words, mul-le-mul_left {m = s.slots} {n = m} (slot_most d) few)

-- two bars for each of at most sixteen years
pub pair_most : (html : Bool) (words : List ℕ) (one d first k a b : ℕ) (xs : List ℤ) (n : ℕ) → 1 ≤ one → one ≤ most_one → first ≤ 100000 → k < 16 → Figured k xs
    → a + (k + 1) ≤ (added_at k).differences → b + (k + 1) ≤ (added_at k).differences → plot_most words d 16 ≤ n → length (column_plot html words one d first (k + 1) a b xs) ≤ n
unfolding column_plot pair_series
pair_most html words one d first k a b xs n h l f few figured ha hb big =
    only_plot_most html words one d first (placed_pair (k + 1) a b xs blank).values (pair_series (k + 1)) 16 n h l f (omega arith) (omega arith)
    (pair_plotted (k + 1) a b xs (omega arith) (drawn k (k + 1) a xs few figured ha) (drawn k (k + 1) b xs few figured hb)) big
