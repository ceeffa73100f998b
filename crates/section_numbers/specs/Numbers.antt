-- Single numbers of a section of the report's figures: its sum, its largest size, the sum of its sizes, and how many payments rounding loses. Assumes nothing.
use Rattle.std.specs.Prelude.{ℕ, ◌+◌, ◌≤◌, cond, List, ℤ, pos, nat_abs, get_or}
use Rattle.rules.specs.Lists.{total, up_to}
use Rattle.rules.specs.Triangle.{sum_to}
use Rattle.signed_sums.specs.Small.{most_figure, Sized}
use Rattle.shading.specs.Shading.{largest_size, is_lost}
use Rattle.vectors.specs.Vectors.{most_figures, figure_at}

-- the sum of n figures from place `start` on
unfoldable pub sum_of : ℕ → ℕ → List ℤ → ℤ
sum_of start n xs = sum_to (λ i. figure_at xs (start + i)) n

-- the sum of their sizes
unfoldable pub sizes_of : ℕ → ℕ → List ℤ → ℕ
sizes_of start n xs = total (up_to (λ i. nat_abs (figure_at xs (start + i))) n)

-- 1 for a payment that its average loses, 0 for any other
unfoldable pub lost_one : ℤ → ℤ → ℕ
lost_one payment average = cond (is_lost payment average) 1 0

-- how many of n payments are so
unfoldable pub lost_of : ℕ → ℕ → ℕ → List ℤ → ℕ
lost_of payments averages n xs = total (up_to (λ i. lost_one (figure_at xs (payments + i)) (figure_at xs (averages + i))) n)

-- the sums of n sections, and their largest sizes: where each starts, and how many figures it has
unfoldable pub sums_of : List ℕ → List ℕ → ℕ → List ℤ → List ℤ
sums_of starts counts n xs = up_to (λ j. sum_of (get_or starts j 0) (get_or counts j 0) xs) n

unfoldable pub all_largest : List ℕ → List ℕ → ℕ → List ℤ → List ℤ
all_largest starts counts n xs = up_to (λ j. pos (largest_size (get_or starts j 0) (get_or counts j 0) xs)) n

-- a section within the array, of at most 136 figures that are small enough for a sum
pub record Spans (start n : ℕ) (xs : List ℤ) : Type 0 where
  pub few : n ≤ 136
  pub inside : start + n ≤ most_figures
  pub small : Sized most_figure start n xs
