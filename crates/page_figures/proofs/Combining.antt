-- How large the figures are while they are combined. Assumes nothing.
use Prim.Native.Nat.{ℕ, ◌+◌, ◌-◌, ◌*◌, ◌≤◌, ◌<◌, zero-le}
use native.Mathlib.Omega.{arith}
use mathlib.Core.Path.{◌≡◌, refl, ◌∙◌}
use mathlib.Core.Bool.{true, false}
use mathlib.Core.List.{List}
use lib.IntN.{ℤ, pos, nat_abs}
use lib.ListN.{length}
use lib.Seq.{sets, length-sets}
use Rattle.rules.specs.Lists.{up_to}
use Rattle.rules.specs.Record.{cells}
use Rattle.rules.specs.Triangle.{sum_to, row_start}
use Rattle.rules.specs.Results.{average_section, provision_section, section_start}
use Rattle.laws.proofs.Lists.{length_up_to}
use Rattle.laws.proofs.Joined.{up_to_all}
use Rattle.listing.specs.Starts.{starts_of}
use Rattle.listing.proofs.Known.{known}
use Rattle.signed_sums.specs.Small.{most_figure, Sized}
use Rattle.signed_sums.proofs.Adding.{sum_size_lem}
use Rattle.vectors.specs.Vectors.{most_figures, figure_at, differences, sums}
use Rattle.vectors.proofs.Before.{sized_before, sized_stored}
use Rattle.row_figures.specs.RowFigures.{row_sums}
use Rattle.row_figures.proofs.Rows.{sized_row}
use Rattle.figure_places.specs.Places.{added_at}
use Rattle.page_figures.specs.Given.{most_worked, most_shown, Figured}
use Rattle.page_figures.specs.Shown.{with_remaining, with_ultimates, with_gaps, with_differences, with_gap_sums, combined_figures}
use Rattle.page_figures.proofs.Numbers.{Numbers, numbers}
use Rattle.page_figures.proofs.Bases.{sized_part}
use Rattle.page_figures.proofs.Sizes.{sized_combined, sized_more}

-- the most of a combined figure, 4 × 10^15
abbrev most_combined : ℕ
most_combined = 2 * most_worked

-- of an array with the figures that are worked out
module _ (k : ℕ) (xs : List ℤ) (few : k < 16) (long : length xs ≡ most_figures) (worked : Sized most_worked 0 (added_at k).remaining xs) where
  at_all : Numbers (added_at k) (starts_of k) k
  at_all = numbers (added_at k) (starts_of k) k few refl refl

  part : (a n : ℕ) (ys : List ℤ) → a + n ≤ (added_at k).remaining → Sized most_worked 0 (added_at k).remaining ys → Sized most_worked a n ys
  part a n ys h w = sized_part most_worked most_worked (added_at k).remaining a n ys (omega arith) h w

  -- the chain ladder's provisions
  long_first : length (with_remaining k xs) ≡ most_figures
  unfolding with_remaining
  long_first = length-sets xs (added_at k).remaining (differences (added_at k).ladder (added_at k).paid (k + 1) xs) ∙ long

  pub first : Sized most_worked 0 (added_at k).remaining (with_remaining k xs)
  unfolding with_remaining
  first = sized_before most_worked 0 (added_at k).remaining xs (added_at k).remaining (differences (added_at k).ladder (added_at k).paid (k + 1) xs) (omega arith) worked

  remaining : Sized most_combined (added_at k).remaining (k + 1) (with_remaining k xs)
  unfolding with_remaining
  remaining =
      let n = at_all in
      sized_combined most_worked most_worked most_combined true (added_at k).ladder (added_at k).paid (k + 1) xs (added_at k).remaining (omega arith) (omega arith)
      (part (added_at k).ladder (k + 1) xs (omega arith) worked) (part (added_at k).paid (k + 1) xs (omega arith) worked)

  all_first : Sized most_combined 0 (added_at k).ultimates (with_remaining k xs)
  all_first =
      let n = at_all in
      let e : (added_at k).remaining + (k + 1) ≡ (added_at k).ultimates = omega arith in
      rw e at
      (sized_more most_combined (added_at k).remaining (k + 1) (with_remaining k xs)
      (sized_part most_worked most_combined (added_at k).remaining 0 (added_at k).remaining (with_remaining k xs) (omega arith) (omega arith) first) remaining)

  -- the ultimates
  abbrev ys : List ℤ
  ys = with_remaining k xs

  long_second : length (with_ultimates k (with_remaining k xs)) ≡ most_figures
  unfolding with_ultimates
  long_second = length-sets ys (added_at k).ultimates (sums (added_at k).paid (section_start k provision_section) (k + 1) ys) ∙ long_first

  pub second : Sized most_worked 0 (added_at k).remaining (with_ultimates k (with_remaining k xs))
  unfolding with_ultimates
  second =
      let n = at_all in
      sized_before most_worked 0 (added_at k).remaining ys (added_at k).ultimates (sums (added_at k).paid (section_start k provision_section) (k + 1) ys) (omega arith) first

  all_second : Sized most_combined 0 (added_at k).gaps (with_ultimates k (with_remaining k xs))
  unfolding with_ultimates
  all_second =
      let n = at_all in
      let q = known k in
      let e : (added_at k).ultimates + (k + 1) ≡ (added_at k).gaps = omega arith in
      let zs = sums (added_at k).paid (section_start k provision_section) (k + 1) ys in
      rw e at
      (sized_more most_combined (added_at k).ultimates (k + 1) (sets ys (added_at k).ultimates zs)
      (sized_before most_combined 0 (added_at k).ultimates ys (added_at k).ultimates zs (omega arith) all_first)
      (sized_combined most_worked most_worked most_combined false (added_at k).paid (section_start k provision_section) (k + 1) ys (added_at k).ultimates (omega arith) (omega (arith, long_first))
      (part (added_at k).paid (k + 1) ys (omega arith) first) (part (section_start k provision_section) (k + 1) ys (omega arith) first)))

  -- observed less fitted
  abbrev zs : List ℤ
  zs = with_ultimates k (with_remaining k xs)

  long_third : length (with_gaps k (with_ultimates k (with_remaining k xs))) ≡ most_figures
  unfolding with_gaps
  long_third = length-sets zs (added_at k).gaps (differences (section_start k average_section) (added_at k).fitted (cells k) zs) ∙ long_second

  all_third : Sized most_combined 0 (added_at k).differences (with_gaps k (with_ultimates k (with_remaining k xs)))
  unfolding with_gaps
  all_third =
      let n = at_all in
      let q = known k in
      let e : (added_at k).gaps + cells k ≡ (added_at k).differences = omega arith in
      let vs = differences (section_start k average_section) (added_at k).fitted (cells k) zs in
      rw e at
      (sized_more most_combined (added_at k).gaps (cells k) (sets zs (added_at k).gaps vs)
      (sized_before most_combined 0 (added_at k).gaps zs (added_at k).gaps vs (omega arith) all_second)
      (sized_combined most_worked most_worked most_combined true (section_start k average_section) (added_at k).fitted (cells k) zs (added_at k).gaps (omega arith) (omega (arith, long_second))
      (part (section_start k average_section) (cells k) zs (omega arith) second) (part (added_at k).fitted (cells k) zs (omega arith) second)))

  pub third : (a n : ℕ) → a + n ≤ (added_at k).differences → Sized most_figure a n (with_gaps k (with_ultimates k (with_remaining k xs)))
  third a n h = sized_part most_combined most_figure (added_at k).differences a n (with_gaps k zs) (omega arith) h all_third

  -- the differences of the two methods
  abbrev ws : List ℤ
  ws = with_gaps k (with_ultimates k (with_remaining k xs))

  long_fourth : length (with_differences k (with_gaps k (with_ultimates k (with_remaining k xs)))) ≡ most_figures
  unfolding with_differences
  long_fourth = length-sets ws (added_at k).differences (differences (added_at k).ultimates (added_at k).ladder (k + 1) ws) ∙ long_third

  pub fourth : (a n : ℕ) → a + n ≤ (added_at k).differences → Sized most_figure a n (with_differences k (with_gaps k (with_ultimates k (with_remaining k xs))))
  unfolding with_differences
  fourth a n h = sized_before most_figure a n ws (added_at k).differences (differences (added_at k).ultimates (added_at k).ladder (k + 1) ws) h (third a n h)

  all_fourth : Sized most_shown 0 (added_at k).sums (with_differences k (with_gaps k (with_ultimates k (with_remaining k xs))))
  unfolding with_differences
  all_fourth =
      let n = at_all in
      let e : (added_at k).differences + (k + 1) ≡ (added_at k).sums = omega arith in
      let vs = differences (added_at k).ultimates (added_at k).ladder (k + 1) ws in
      rw e at
      (sized_more most_shown (added_at k).differences (k + 1) (sets ws (added_at k).differences vs)
      (sized_before most_shown 0 (added_at k).differences ws (added_at k).differences vs (omega arith)
      (sized_part most_combined most_shown (added_at k).differences 0 (added_at k).differences ws (omega arith) (omega arith) all_third))
      (sized_combined most_figure most_figure most_shown true (added_at k).ultimates (added_at k).ladder (k + 1) ws (added_at k).differences (omega arith) (omega (arith, long_third))
      (third (added_at k).ultimates (k + 1) (omega arith)) (third (added_at k).ladder (k + 1) (omega arith))))

  -- the sums of observed less fitted
  abbrev vs : List ℤ
  vs = with_differences k (with_gaps k (with_ultimates k (with_remaining k xs)))

  abbrev Most : ℤ → Type 0
  Most z = nat_abs z ≤ most_shown

  gaps_small : Sized most_combined (added_at k).gaps (cells k) (with_differences k (with_gaps k (with_ultimates k (with_remaining k xs))))
  unfolding with_differences
  gaps_small =
      let n = at_all in
      sized_before most_combined (added_at k).gaps (cells k) ws (added_at k).differences (differences (added_at k).ultimates (added_at k).ladder (k + 1) ws) (omega arith)
      (sized_part most_combined most_combined (added_at k).differences (added_at k).gaps (cells k) ws (omega arith) (omega arith) all_third)

  row_small : (i : ℕ) → i < k + 1 → nat_abs (sum_to (λ j. figure_at vs ((added_at k).gaps + row_start k i + j)) (k + 1 - i)) ≤ most_shown
  row_small i h =
      let row = sized_row most_combined (added_at k).gaps k i vs (omega arith) gaps_small in
      let sum = sum_size_lem (λ j. figure_at vs ((added_at k).gaps + row_start k i + j)) most_combined (k + 1 - i) row (k + 1 - i) (omega arith) in
      omega arith

  pub all_shown : Sized most_shown 0 ((added_at k).sums + (k + 1)) (combined_figures k xs)
  unfolding combined_figures with_gap_sums row_sums
  all_shown =
      let n = at_all in
      let f : ℕ → ℤ = λ i. sum_to (λ j. figure_at vs ((added_at k).gaps + row_start k i + j)) (k + 1 - i) in
      let us = up_to f (k + 1) in
      sized_more most_shown (added_at k).sums (k + 1) (sets vs (added_at k).sums us)
      (sized_before most_shown 0 (added_at k).sums vs (added_at k).sums us (omega arith) all_fourth)
      (sized_stored most_shown vs (added_at k).sums us (k + 1) (length_up_to f (k + 1)) (omega (arith, long_fourth)) (up_to_all Most (pos 0) zero-le f (k + 1) row_small))

  pub all_figured : Figured k (combined_figures k xs)
  unfolding combined_figures with_gap_sums
  all_figured =
      let n = at_all in
      record {
        all = all_shown;
        plotted = sized_before most_figure 0 (added_at k).differences vs (added_at k).sums (row_sums k (added_at k).gaps vs) (omega arith) (fourth 0 (added_at k).differences (omega arith));
      }
