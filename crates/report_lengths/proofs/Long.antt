-- The figures of a report stand in an array of their own length. Assumes nothing.
use mathlib.Core.Path.{◌≡◌}
use mathlib.Core.List.{List}
use Prim.Native.Nat.{ℕ}
use lib.IntN.{ℤ}
use lib.ListN.{length, length-replicate}
use lib.Seq.{length-sets}
use Rattle.vectors.specs.Vectors.{most_figures}
use Rattle.page_figures.specs.Shown.{result_figures, triangle_figures, with_assumptions, given_figures, with_cumulatives, with_paid, with_running, with_changes, with_expected, with_fitted, with_allowances, with_margins, with_ladder, with_remaining, with_ultimates, with_gaps, with_differences, with_gap_sums, worked_triangles, worked_figures, combined_figures, shown_figures}
use Rattle.record_figures.specs.RecordFigures.{record_figures}

-- stores leave the array as long as it is
pub figures_long : (list : List ℤ) (s : List ℕ) → length (record_figures list s) ≡ most_figures
unfolding record_figures shown_figures combined_figures worked_figures worked_triangles given_figures with_assumptions triangle_figures result_figures with_cumulatives with_paid with_running with_changes with_expected with_fitted with_allowances with_margins with_ladder with_remaining with_ultimates with_gaps with_differences with_gap_sums
figures_long list s = simp (length-sets, length-replicate)
