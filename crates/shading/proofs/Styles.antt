-- The style of one cell, by its places in the array, and the sizes that it is made from. Assumes nothing.
use Prim.Native.Nat.{ℕ, ◌+◌, ◌≤◌, ◌<◌}
use native.Mathlib.Omega.{arith}
use mathlib.Core.Path.{◌≡◌, refl}
use mathlib.Core.List.{List}
use lib.IntN.{ℤ, nat_abs}
use Rattle.rules.specs.Record.{cells}
use Rattle.listing.specs.Starts.{starts_of}
use Rattle.listing.proofs.Known.{known}
use Rattle.signed_sums.specs.Small.{most_figure, Sized}
use Rattle.table_cells.specs.Cells.{styled}
use Rattle.vectors.specs.Vectors.{most_figures, figure_at}
use Rattle.figure_places.specs.declared.Added.{Added}
use Rattle.figure_places.specs.Places.{added_at}
use Rattle.page_figures.specs.Given.{Figured}
use Rattle.page_figures.proofs.Numbers.{numbers}
use Rattle.page_figures.proofs.Bases.{sized_part}
use Rattle.shading.specs.Shading.{largest_size, average_mark, gap_mark, average_style, gap_style}

pub average_style_lem : (k : ℕ) (xs : List ℤ) (at : Added) (most m : ℕ) → at ≡ added_at k → most ≡ largest_size 0 (cells k) xs
    → styled (average_mark most (figure_at xs (at.increments + m)) (figure_at xs m)) 2 ≡ average_style k xs m
unfolding average_style
average_style_lem k xs at most m e f =
    let z : 0 + m ≡ m = omega arith in
    rw ((known k).averages, z, e, f)

pub gap_style_lem : (k : ℕ) (xs : List ℤ) (at : Added) (m : ℕ) → at ≡ added_at k
    → styled (gap_mark (nat_abs (figure_at xs (at.fitted + m))) (figure_at xs (at.gaps + m))) 2 ≡ gap_style k xs m
unfolding gap_style
gap_style_lem k xs at m e = rw e

-- the places of a triangle's cells, all before the differences
pub record Inside (k : ℕ) (at : Added) : Type 0 where
  pub most : cells k ≤ 136
  pub increments : at.increments + cells k ≤ most_figures
  pub fitted : at.fitted + cells k ≤ most_figures
  pub gaps : at.gaps + cells k ≤ most_figures

pub inside : (k : ℕ) (at : Added) → k < 16 → at ≡ added_at k → Inside k at
inside k at h e =
    let n = numbers at (starts_of k) k h e refl in
    record { most = omega arith; increments = omega arith; fitted = omega arith; gaps = omega arith }

-- and their sizes
pub record Small (k : ℕ) (at : Added) (xs : List ℤ) : Type 0 where
  pub averages : Sized most_figure 0 (cells k) xs
  pub fitted : Sized most_figure at.fitted (cells k) xs
  pub gaps : Sized most_figure at.gaps (cells k) xs

pub small : (k : ℕ) (at : Added) (xs : List ℤ) → k < 16 → at ≡ added_at k → Figured k xs → Small k at xs
small k at xs h e f =
    let n = numbers (added_at k) (starts_of k) k h refl refl in
    rw e (
    record {
      averages = sized_part most_figure most_figure (added_at k).differences 0 (cells k) xs (omega arith) (omega arith) f.plotted;
      fitted = sized_part most_figure most_figure (added_at k).differences (added_at k).fitted (cells k) xs (omega arith) (omega arith) f.plotted;
      gaps = sized_part most_figure most_figure (added_at k).differences (added_at k).gaps (cells k) xs (omega arith) (omega arith) f.plotted;
    }
    )
