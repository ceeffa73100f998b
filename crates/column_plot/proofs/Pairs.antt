-- Two columns of small figures beside each other can be plotted. Assumes nothing.
use Prim.Native.Nat.{ℕ, zero, suc, ◌+◌, ◌*◌, ◌≤◌}
use native.Mathlib.Omega.{arith}
use mathlib.Core.Path.{◌≡◌, refl, ◌∙◌}
use mathlib.Core.List.{List}
use lib.IntN.{ℤ, pos}
use lib.ListN.{length, length-set, length-replicate}
use Rattle.table_cells.specs.Cells.{most_places, plain, styled}
use Rattle.vectors.specs.Vectors.{figure_at}
use Rattle.placing.specs.Placing.{Grid, blank, placed, placed_as, AtMost}
use Rattle.placing.proofs.Small.{blank_small, placed_small}
use Rattle.axis.specs.Axis.{most_plotted}
use Rattle.plot.specs.Plot.{AllPlotted}
use Rattle.column_plot.specs.ColumnPlot.{placed_pair, pair_series, Drawn}

-- figures placed in a grid leave it its places
placed_length : (κ : ℕ → ℕ) (first step start n : ℕ) (xs : List ℤ) (g : Grid) → length (placed κ first step start n xs g).values ≡ length g.values
unfolding placed
placed_length κ first step start zero xs g = refl
placed_length κ first step start (suc m) xs g =
    length-set (placed κ first step start m xs g).values (first + m * step) (figure_at xs (start + m)) ∙ placed_length κ first step start m xs g

pub pair_length : (n a b : ℕ) (xs : List ℤ) → length (placed_pair n a b xs blank).values ≡ most_places
unfolding placed_pair
pair_length n a b xs =
    placed_length (λ m. styled plain 0) 1 2 b n xs (placed_as (styled plain 0) 0 2 a n xs blank) ∙ placed_length (λ m. styled plain 0) 0 2 a n xs blank ∙ length-replicate most_places (pos 0)

pair_small : (n a b : ℕ) (xs : List ℤ) → Drawn n a xs → Drawn n b xs → AtMost most_plotted (placed_pair n a b xs blank)
unfolding placed_pair
pair_small n a b xs f s =
    placed_small most_plotted (λ m. styled plain 0) 1 2 b n xs (placed_as (styled plain 0) 0 2 a n xs blank) s.small
    (placed_small most_plotted (λ m. styled plain 0) 0 2 a n xs blank f.small (blank_small most_plotted))

pub pair_plotted : (n a b : ℕ) (xs : List ℤ) → n ≤ 32 → Drawn n a xs → Drawn n b xs → AllPlotted (placed_pair n a b xs blank).values (pair_series n)
unfolding pair_series
pair_plotted n a b xs few f s c l =
    let long = pair_length n a b xs in
    let small = pair_small n a b xs f s in
    record {
      first_inside = omega arith;
      second_inside = λ e. omega arith;
      first_most = small (0 + c * 2);
      second_most = λ e. small (0 + c * 2 + 1);
    }
