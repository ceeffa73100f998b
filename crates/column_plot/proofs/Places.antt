-- Sections of the report's figures before the differences of the two methods can be plotted. Assumes nothing.
use Prim.Native.Nat.{ℕ, ◌+◌, ◌≤◌, ◌<◌}
use native.Mathlib.Omega.{arith}
use mathlib.Core.Path.{refl}
use mathlib.Core.List.{List}
use lib.IntN.{ℤ}
use Rattle.listing.specs.Starts.{starts_of}
use Rattle.signed_sums.specs.Small.{most_figure}
use Rattle.axis.specs.Axis.{most_plotted}
use Rattle.figure_places.specs.Places.{added_at}
use Rattle.page_figures.specs.Given.{Figured}
use Rattle.page_figures.proofs.Numbers.{numbers}
use Rattle.page_figures.proofs.Bases.{sized_part}
use Rattle.column_plot.specs.ColumnPlot.{Drawn}

pub drawn : (k n a : ℕ) (xs : List ℤ) → k < 16 → Figured k xs → a + n ≤ (added_at k).differences → Drawn n a xs
drawn k n a xs h f l =
    let p = numbers (added_at k) (starts_of k) k h refl refl in
    record {
      inside = omega arith;
      small = sized_part most_figure most_plotted (added_at k).differences a n xs (omega arith) l f.plotted;
    }
