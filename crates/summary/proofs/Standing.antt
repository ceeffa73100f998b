-- What stands at each place of the array, by its name. Assumes nothing.
use Prim.Native.Nat.{ℕ, ◌+◌}
use mathlib.Core.Path.{◌≡◌, refl}
use mathlib.Core.List.{List}
use lib.IntN.{ℤ, pos, ◌+ℤ◌, ◌-ℤ◌}
use lib.ListN.{get_or}
use Rattle.rules.specs.Lists.{padded}
use Rattle.rules.specs.Record.{million, most_index, most_amount, last_year, cells}
use Rattle.rules.specs.Triangle.{most_cumulative}
use Rattle.rules.specs.Separation.{billion}
use Rattle.rules.specs.Completion.{most_ultimate}
use Rattle.rules.specs.Ladder.{most_factor}
use Rattle.rules.specs.Results.{average_section, section_start}
use Rattle.growth.specs.declared.Correction.{Correction}
use Rattle.listing.specs.Starts.{starts_of}
use Rattle.vectors.specs.Vectors.{figure_at}
use Rattle.figure_places.specs.Places.{added_at}
use Rattle.section_numbers.specs.Numbers.{sum_of, sizes_of, lost_of}
use Rattle.shading.specs.Shading.{largest_size}
use Rattle.summary_figures.specs.Summary.{paid_at, ultimate_at, ladder_at, ladder_provision_at, tail_payments_at, allowance_at, margin_at, ulae_at, claims_at, averages_at, provision_at, reserve_at, used_ratio_at, together_at, difference_at, both_allowances_at, tail_allowance_at, largest_exposure_at, largest_increment_at, largest_level_at, largest_index_at, largest_ultimate_at, largest_factor_at, largest_cumulative_at, gaps_at, lost_at, year_at, weight_at, tail_at, years_at, plain_ratio_at, reported_at, latest_paid_at, divisor_at, most_years_at, most_exposure_at, most_increment_at, most_cumulative_at, most_averages_at, most_level_at, most_index_at, most_ultimate_at, most_factor_at, totals_of, entries_of, tail_allowance, compared_of, largest_cumulative, largest_sizes, fit_of, given_of, limits, summary_of}

-- of an array ss: the figures xs of the years 0 to k, the valuation year y, the correction c, the weight w and the amount t after the last year
pub record Standing (ss : List ℤ) (y k : ℕ) (xs : List ℤ) (c : Correction) (w t : ℕ) : Type 0 where
  pub paid : get_or ss paid_at (pos 0) ≡ sum_of (added_at k).paid (k + 1) xs
  pub ultimate : get_or ss ultimate_at (pos 0) ≡ sum_of (added_at k).ultimates (k + 1) xs
  pub ladder : get_or ss ladder_at (pos 0) ≡ sum_of (added_at k).ladder (k + 1) xs
  pub ladder_provision : get_or ss ladder_provision_at (pos 0) ≡ sum_of (added_at k).remaining (k + 1) xs
  pub tail_payments : get_or ss tail_payments_at (pos 0) ≡ sum_of (starts_of k).tails (k + 1) xs
  pub allowance : get_or ss allowance_at (pos 0) ≡ sum_of (added_at k).allowances (k + 1) xs
  pub margin : get_or ss margin_at (pos 0) ≡ sum_of (added_at k).margins (k + 1) xs
  pub ulae : get_or ss ulae_at (pos 0) ≡ sum_of (added_at k).ulae (k + 1) xs
  pub claims : get_or ss claims_at (pos 0) ≡ sum_of (added_at k).exposures (k + 1) xs
  pub averages : get_or ss averages_at (pos 0) ≡ sum_of (section_start k average_section) (cells k) xs
  pub provision : get_or ss provision_at (pos 0) ≡ figure_at xs (starts_of k).provision
  pub reserve : get_or ss reserve_at (pos 0) ≡ figure_at xs (starts_of k).reserve
  pub used_ratio : get_or ss used_ratio_at (pos 0) ≡ figure_at xs (starts_of k).ratio
  pub together : get_or ss together_at (pos 0) ≡ (figure_at xs (starts_of k).provision +ℤ figure_at xs (starts_of k).reserve)
  pub difference : get_or ss difference_at (pos 0) ≡ (sum_of (added_at k).ultimates (k + 1) xs -ℤ sum_of (added_at k).ladder (k + 1) xs)
  pub both_allowances : get_or ss both_allowances_at (pos 0) ≡ (sum_of (added_at k).allowances (k + 1) xs +ℤ sum_of (added_at k).margins (k + 1) xs)
  pub tail_allowance_lem : get_or ss tail_allowance_at (pos 0) ≡ tail_allowance k xs
  pub largest_exposure : get_or ss largest_exposure_at (pos 0) ≡ pos (largest_size (added_at k).exposures (k + 1) xs)
  pub largest_increment : get_or ss largest_increment_at (pos 0) ≡ pos (largest_size (added_at k).increments (cells k) xs)
  pub largest_level : get_or ss largest_level_at (pos 0) ≡ pos (largest_size (starts_of k).levels (k + 1) xs)
  pub largest_index : get_or ss largest_index_at (pos 0) ≡ pos (largest_size (added_at k).indices (k + 1) xs)
  pub largest_ultimate : get_or ss largest_ultimate_at (pos 0) ≡ pos (largest_size (added_at k).ultimates (k + 1) xs)
  pub largest_factor : get_or ss largest_factor_at (pos 0) ≡ pos (largest_size (starts_of k).factors k xs)
  pub largest_cumulative : get_or ss largest_cumulative_at (pos 0) ≡ pos (largest_cumulative k xs)
  pub gaps : get_or ss gaps_at (pos 0) ≡ pos (sizes_of (added_at k).gaps (cells k) xs)
  pub lost : get_or ss lost_at (pos 0) ≡ pos (lost_of (added_at k).increments (section_start k average_section) (cells k) xs)
  pub year : get_or ss year_at (pos 0) ≡ pos y
  pub weight : get_or ss weight_at (pos 0) ≡ pos w
  pub tail : get_or ss tail_at (pos 0) ≡ pos t
  pub years : get_or ss years_at (pos 0) ≡ pos (k + 1)
  pub plain_ratio : get_or ss plain_ratio_at (pos 0) ≡ pos c.plain
  pub reported : get_or ss reported_at (pos 0) ≡ pos c.reported
  pub latest_paid : get_or ss latest_paid_at (pos 0) ≡ pos c.paid
  pub divisor : get_or ss divisor_at (pos 0) ≡ pos c.divisor
  pub most_years : get_or ss most_years_at (pos 0) ≡ pos (last_year.most + 1)
  pub most_exposure : get_or ss most_exposure_at (pos 0) ≡ pos million
  pub most_increment : get_or ss most_increment_at (pos 0) ≡ pos most_amount
  pub most_cumulative : get_or ss most_cumulative_at (pos 0) ≡ pos most_cumulative
  pub most_averages : get_or ss most_averages_at (pos 0) ≡ pos billion
  pub most_level : get_or ss most_level_at (pos 0) ≡ pos billion
  pub most_index : get_or ss most_index_at (pos 0) ≡ pos most_index
  pub most_ultimate : get_or ss most_ultimate_at (pos 0) ≡ pos most_ultimate
  pub most_factor : get_or ss most_factor_at (pos 0) ≡ pos most_factor

pub standing : (y k : ℕ) (xs : List ℤ) (c : Correction) (w t : ℕ) → Standing (summary_of y k xs c w t) y k xs c w t
unfolding padded summary_of totals_of entries_of compared_of largest_sizes fit_of given_of limits
standing y k xs c w t =
    record {
      paid = refl;
      ultimate = refl;
      ladder = refl;
      ladder_provision = refl;
      tail_payments = refl;
      allowance = refl;
      margin = refl;
      ulae = refl;
      claims = refl;
      averages = refl;
      provision = refl;
      reserve = refl;
      used_ratio = refl;
      together = refl;
      difference = refl;
      both_allowances = refl;
      tail_allowance_lem = refl;
      largest_exposure = refl;
      largest_increment = refl;
      largest_level = refl;
      largest_index = refl;
      largest_ultimate = refl;
      largest_factor = refl;
      largest_cumulative = refl;
      gaps = refl;
      lost = refl;
      year = refl;
      weight = refl;
      tail = refl;
      years = refl;
      plain_ratio = refl;
      reported = refl;
      latest_paid = refl;
      divisor = refl;
      most_years = refl;
      most_exposure = refl;
      most_increment = refl;
      most_cumulative = refl;
      most_averages = refl;
      most_level = refl;
      most_index = refl;
      most_ultimate = refl;
      most_factor = refl;
    }
