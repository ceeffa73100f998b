-- The segments of the array, one after another. Assumes nothing.
use Prim.Native.Nat.{ℕ}
use mathlib.Core.Path.{◌≡◌, refl}
use mathlib.Core.List.{List}
use lib.IntN.{ℤ, pos}
use lib.ListN.{replicate}
use lib.Seq.{sets}
use Rattle.rules.specs.Lists.{padded}
use Rattle.growth.specs.declared.Correction.{Correction}
use Rattle.summary_figures.specs.Summary.{singles, paid_at, provision_at, difference_at, largest_exposure_at, gaps_at, year_at, most_years_at, totals_of, entries_of, compared_of, largest_sizes, fit_of, given_of, limits, summary_of}

-- seven runs of stores are one
pub segments : (year k : ℕ) (xs : List ℤ) (correction : Correction) (weight tail : ℕ)
    → sets
    (sets
    (sets
    (sets
    (sets (sets (sets (replicate singles (pos 0)) paid_at (totals_of k xs)) provision_at (entries_of k xs)) difference_at (compared_of k xs))
    largest_exposure_at (largest_sizes k xs))
    gaps_at (fit_of k xs))
    year_at (given_of year k correction weight tail))
    most_years_at limits
    ≡ summary_of year k xs correction weight tail
unfolding padded totals_of entries_of compared_of largest_sizes fit_of given_of limits summary_of
segments year k xs correction weight tail = refl
