-- The levels found and the future ones can be plotted (drawn), whatever part of the bars is dark. Assumes nothing.
use Prim.Native.Nat.{ℕ, ◌+◌, ◌*◌, ◌<◌}
use native.Mathlib.Nat.{mul-one}
use native.Mathlib.Omega.{arith}
use mathlib.Core.Path.{◌≡◌, refl}
use mathlib.Core.List.{List}
use lib.IntN.{ℤ}
use lib.ListN.{length}
use Rattle.listing.specs.Starts.{starts_of}
use Rattle.vectors.specs.Vectors.{most_figures}
use Rattle.figure_places.specs.Places.{added_at}
use Rattle.page_figures.specs.Given.{Figured}
use Rattle.page_figures.proofs.Numbers.{numbers}
use Rattle.plot.specs.Plot.{AllPlotted}
use Rattle.column_plot.proofs.Places.{drawn}

pub level_plotted : (k split : ℕ) (xs : List ℤ) → k < 16 → Figured k xs → length xs ≡ most_figures
    → AllPlotted xs (record { start = (starts_of k).levels; stride = 1; bars = 1; split = split; slots = 2 * k + 1 })
level_plotted k split xs h f long i l =
    let here = numbers (added_at k) (starts_of k) k h refl refl in
    let bars = drawn k (2 * k + 1) (starts_of k).levels xs h f (omega arith) in
    record {
      first_inside = rw (mul-one i) (omega arith);
      second_inside = λ e. omega arith;
      first_most = rw (mul-one i) (bars.small i l);
      second_most = λ e. omega arith;
    }
