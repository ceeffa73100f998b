-- Single figures of the report in one array: totals, ratios, what is given, the largest sizes here, the fit, and the limits of the package. Assumes nothing.
use Rattle.std.specs.Prelude.{ℕ, ◌+◌, ◌-◌, ◌*◌, ◌≤◌, max, List, [], ◌∷◌, ◌++◌, ℤ, pos, ◌+ℤ◌, ◌-ℤ◌}
use Rattle.rules.specs.Lists.{padded}
use Rattle.rules.specs.Record.{million, most_index, most_amount, last_year, cells}
use Rattle.rules.specs.Triangle.{most_cumulative}
use Rattle.rules.specs.Separation.{billion}
use Rattle.rules.specs.Completion.{most_ultimate}
use Rattle.rules.specs.Ladder.{most_factor}
use Rattle.rules.specs.Results.{average_section, section_start}
use Rattle.growth.specs.declared.Correction.{Correction}
use Rattle.listing.specs.Starts.{starts_of}
use Rattle.vectors.specs.Vectors.{figure_at}
use Rattle.figure_places.specs.Places.{added_at}
use Rattle.section_numbers.specs.Numbers.{sum_of, sizes_of, lost_of}
use Rattle.shading.specs.Shading.{largest_size}

-- how many places the array has
abbrev pub singles : ℕ
singles = 48

-- sums of sections by origin or payment year, and of the averages: paid, ultimates, the chain ladder's ultimates and provisions, tail payments, allowances of the provisions and of the ULAE reserves, ULAE totals, claims, averages
abbrev pub paid_at : ℕ
paid_at = 0

abbrev pub ultimate_at : ℕ
ultimate_at = 1

abbrev pub ladder_at : ℕ
ladder_at = 2

abbrev pub ladder_provision_at : ℕ
ladder_provision_at = 3

abbrev pub tail_payments_at : ℕ
tail_payments_at = 4

abbrev pub allowance_at : ℕ
allowance_at = 5

abbrev pub margin_at : ℕ
margin_at = 6

abbrev pub ulae_at : ℕ
ulae_at = 7

abbrev pub claims_at : ℕ
claims_at = 8

abbrev pub averages_at : ℕ
averages_at = 9

-- from the list: provision, ULAE reserve, ratio used; provision and ULAE reserve together
abbrev pub provision_at : ℕ
provision_at = 10

abbrev pub reserve_at : ℕ
reserve_at = 11

abbrev pub used_ratio_at : ℕ
used_ratio_at = 12

abbrev pub together_at : ℕ
together_at = 13

-- ultimates less the chain ladder's, which is the difference of the provisions; both allowances together; the allowance of the tail payments
abbrev pub difference_at : ℕ
difference_at = 14

abbrev pub both_allowances_at : ℕ
both_allowances_at = 15

abbrev pub tail_allowance_at : ℕ
tail_allowance_at = 16

-- the largest exposure, increment, level, index, ultimate, development factor and cumulative, given or completed
abbrev pub largest_exposure_at : ℕ
largest_exposure_at = 17

abbrev pub largest_increment_at : ℕ
largest_increment_at = 18

abbrev pub largest_level_at : ℕ
largest_level_at = 19

abbrev pub largest_index_at : ℕ
largest_index_at = 20

abbrev pub largest_ultimate_at : ℕ
largest_ultimate_at = 21

abbrev pub largest_factor_at : ℕ
largest_factor_at = 22

abbrev pub largest_cumulative_at : ℕ
largest_cumulative_at = 23

-- the sizes of observed less fitted together, and how many payments have an average of zero and are not zero
abbrev pub gaps_at : ℕ
gaps_at = 24

abbrev pub lost_at : ℕ
lost_at = 25

-- valuation year, reporting weight, amount after the last year, origin years; the plain ratio, what is reported and what is paid in the latest year, the divisor
abbrev pub year_at : ℕ
year_at = 26

abbrev pub weight_at : ℕ
weight_at = 27

abbrev pub tail_at : ℕ
tail_at = 28

abbrev pub years_at : ℕ
years_at = 29

abbrev pub plain_ratio_at : ℕ
plain_ratio_at = 30

abbrev pub reported_at : ℕ
reported_at = 31

abbrev pub latest_paid_at : ℕ
latest_paid_at = 32

abbrev pub divisor_at : ℕ
divisor_at = 33

-- the limits of the package, in the order of the report
abbrev pub most_years_at : ℕ
most_years_at = 34

abbrev pub most_exposure_at : ℕ
most_exposure_at = 35

abbrev pub most_increment_at : ℕ
most_increment_at = 36

abbrev pub most_cumulative_at : ℕ
most_cumulative_at = 37

abbrev pub most_averages_at : ℕ
most_averages_at = 38

abbrev pub most_level_at : ℕ
most_level_at = 39

abbrev pub most_index_at : ℕ
most_index_at = 40

abbrev pub most_ultimate_at : ℕ
most_ultimate_at = 41

abbrev pub most_factor_at : ℕ
most_factor_at = 42

-- the sums
unfoldable pub totals_of : ℕ → List ℤ → List ℤ
totals_of k xs =
    let n = k + 1 in
    sum_of (added_at k).paid n xs
    ∷ sum_of (added_at k).ultimates n xs
    ∷ sum_of (added_at k).ladder n xs
    ∷ sum_of (added_at k).remaining n xs
    ∷ sum_of (starts_of k).tails n xs
    ∷ sum_of (added_at k).allowances n xs
    ∷ sum_of (added_at k).margins n xs
    ∷ sum_of (added_at k).ulae n xs
    ∷ sum_of (added_at k).exposures n xs
    ∷ sum_of (section_start k average_section) (cells k) xs
    ∷ []

-- entries of the list
unfoldable pub entries_of : ℕ → List ℤ → List ℤ
entries_of k xs =
    figure_at xs (starts_of k).provision
    ∷ figure_at xs (starts_of k).reserve
    ∷ figure_at xs (starts_of k).ratio
    ∷ (figure_at xs (starts_of k).provision +ℤ figure_at xs (starts_of k).reserve)
    ∷ []

-- the tail payments' allowance in hundredths: one for each claim, and 100 for each origin year
unfoldable pub tail_allowance : ℕ → List ℤ → ℤ
tail_allowance k xs = sum_of (added_at k).exposures (k + 1) xs +ℤ pos (100 * (k + 1))

-- what is worked out of sums
unfoldable pub compared_of : ℕ → List ℤ → List ℤ
compared_of k xs =
    let n = k + 1 in
    (sum_of (added_at k).ultimates n xs -ℤ sum_of (added_at k).ladder n xs)
    ∷ (sum_of (added_at k).allowances n xs +ℤ sum_of (added_at k).margins n xs)
    ∷ tail_allowance k xs
    ∷ []

-- the largest cumulative, given or completed
unfoldable pub largest_cumulative : ℕ → List ℤ → ℕ
largest_cumulative k xs = max (largest_size (added_at k).cumulatives (cells k) xs) (largest_size (starts_of k).completed (cells k - (k + 1)) xs)

-- the largest sizes
unfoldable pub largest_sizes : ℕ → List ℤ → List ℤ
largest_sizes k xs =
    let n = k + 1 in
    pos (largest_size (added_at k).exposures n xs)
    ∷ pos (largest_size (added_at k).increments (cells k) xs)
    ∷ pos (largest_size (starts_of k).levels n xs)
    ∷ pos (largest_size (added_at k).indices n xs)
    ∷ pos (largest_size (added_at k).ultimates n xs)
    ∷ pos (largest_size (starts_of k).factors k xs)
    ∷ pos (largest_cumulative k xs)
    ∷ []

-- the fit
unfoldable pub fit_of : ℕ → List ℤ → List ℤ
fit_of k xs =
    pos (sizes_of (added_at k).gaps (cells k) xs)
    ∷ pos (lost_of (added_at k).increments (section_start k average_section) (cells k) xs)
    ∷ []

-- what is given
unfoldable pub given_of : ℕ → ℕ → Correction → ℕ → ℕ → List ℤ
given_of year k correction weight tail =
    pos year
    ∷ pos weight
    ∷ pos tail
    ∷ pos (k + 1)
    ∷ pos correction.plain
    ∷ pos correction.reported
    ∷ pos correction.paid
    ∷ pos correction.divisor
    ∷ []

-- the limits: origin years, claims of one, an increment, a cumulative, all averages together and a level in hundredths, an index, an ultimate, a development factor
unfoldable pub limits : List ℤ
limits =
    pos (last_year.most + 1)
    ∷ pos million
    ∷ pos most_amount
    ∷ pos most_cumulative
    ∷ pos billion
    ∷ pos billion
    ∷ pos most_index
    ∷ pos most_ultimate
    ∷ pos most_factor
    ∷ []

-- all of them, of a valuation year
unfoldable pub summary_of : ℕ → ℕ → List ℤ → Correction → ℕ → ℕ → List ℤ
summary_of year k xs correction weight tail =
    padded singles (pos 0)
    (totals_of k xs ++ (entries_of k xs ++ (compared_of k xs ++ (largest_sizes k xs ++ (fit_of k xs ++ (given_of year k correction weight tail ++ limits))))))

-- the most of a number that is given, 2 × 10^18, and numbers that are given
abbrev pub most_single : ℕ
most_single = 2000000000000000000

pub record Told (year : ℕ) (correction : Correction) (weight tail : ℕ) : Type 0 where
  pub year_most : year ≤ most_single
  pub plain_most : correction.plain ≤ most_single
  pub reported_most : correction.reported ≤ most_single
  pub paid_most : correction.paid ≤ most_single
  pub divisor_most : correction.divisor ≤ most_single
  pub weight_most : weight ≤ most_single
  pub tail_most : tail ≤ most_single
