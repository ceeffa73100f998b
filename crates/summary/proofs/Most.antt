-- Every single figure is at most 2 × 10^18 in size. Assumes nothing.
use Prim.Native.Nat.{ℕ, zero, suc, ◌+◌, ◌-◌, ◌*◌, ◌≤◌, ◌<◌, zero-le}
use native.Mathlib.Omega.{arith}
use mathlib.Core.Path.{◌≡◌}
use mathlib.Core.List.{List, [], ◌∷◌, ◌++◌}
use lib.IntN.{ℤ, pos, nat_abs}
use lib.ListN.{length, get_or}
use Rattle.laws.proofs.Padded.{same_all}
use Rattle.laws.proofs.Signed.{sum_size_lem}
use Rattle.rules.specs.Lists.{padded, total}
use Rattle.rules.specs.Record.{cells}
use Rattle.rules.specs.Results.{average_section, section_start}
use Rattle.growth.specs.declared.Correction.{Correction}
use Rattle.listing.specs.Starts.{starts_of}
use Rattle.signed_sums.specs.Small.{most_figure}
use Rattle.signed_sums.proofs.Sums.{difference_size}
use Rattle.vectors.specs.Vectors.{figure_at}
use Rattle.figure_places.specs.Places.{added_at}
use Rattle.page_figures.specs.Given.{Figured}
use Rattle.section_numbers.specs.Numbers.{sum_of}
use Rattle.shading.specs.Shading.{largest_size}
use Rattle.section_numbers.proofs.Bounds.{sum_most, size_most, sizes_most, lost_most}
use Rattle.summary_figures.specs.Summary.{singles, totals_of, entries_of, tail_allowance, compared_of, largest_cumulative, largest_sizes, fit_of, given_of, limits, summary_of, most_single, Told}
use Rattle.summary_figures.proofs.Sections.{Placed, all_placed, spans}

abbrev pub most : ℕ
most = 2 * most_single

-- no number of a list is above that
record Small (xs : List ℤ) : Type 0 where
  at : (p : ℕ) → nat_abs (get_or xs p (pos 0)) ≤ most

none : Small []
none = record { at = λ p. zero-le }

in_front : (x : ℤ) (xs : List ℤ) → nat_abs x ≤ most → Small xs → (p : ℕ) → nat_abs (get_or (x ∷ xs) p (pos 0)) ≤ most
in_front x xs h s zero = h
in_front x xs h s (suc p) = s.at p

more : (x : ℤ) {xs : List ℤ} → nat_abs x ≤ most → Small xs → Small (x ∷ xs)
more x {xs} h s = record { at = in_front x xs h s }

both : (xs ys : List ℤ) → Small xs → Small ys → Small (xs ++ ys)
both [] ys s t = t
both (x ∷ xs) ys s t = more x (s.at 0) (both xs ys (record { at = λ p. s.at (suc p) }) t)

module _ (k : ℕ) (xs : List ℤ) (few : k < 16) (figured : Figured k xs) where
  p : Placed k
  p = all_placed k few

  year : (start : ℕ) → start + (k + 1) ≤ (added_at k).differences → nat_abs (sum_of start (k + 1) xs) ≤ 16 * most_figure
  year start h = omega (arith, few, sum_most start (k + 1) xs (spans k xs few figured start (k + 1) (omega (arith, few)) h))

  size : (start n : ℕ) → n ≤ 136 → start + n ≤ (added_at k).differences → largest_size start n xs ≤ most_figure
  size start n h l = size_most start n xs (spans k xs few figured start n h l)

  one : (q : ℕ) → q < (added_at k).differences → nat_abs (figure_at xs q) ≤ most_figure
  one q h =
      let e : 0 + q ≡ q = omega arith in
      rw e at (figured.plotted q h)

  cells_sum : nat_abs (sum_of 0 (cells k) xs) ≤ 136 * most_figure
  cells_sum = omega (arith, p, sum_most 0 (cells k) xs (spans k xs few figured 0 (cells k) (omega (arith, p)) (omega (arith, p))))

  totals_small : Small (totals_of k xs)
  unfolding totals_of section_start total
  totals_small =
      more _ (omega (arith, year (added_at k).paid (omega (arith, p))))
      (more _ (omega (arith, year (added_at k).ultimates (omega (arith, p))))
      (more _ (omega (arith, year (added_at k).ladder (omega (arith, p))))
      (more _ (omega (arith, year (added_at k).remaining (omega (arith, p))))
      (more _ (omega (arith, year (starts_of k).tails (omega (arith, p))))
      (more _ (omega (arith, year (added_at k).allowances (omega (arith, p))))
      (more _ (omega (arith, year (added_at k).margins (omega (arith, p))))
      (more _ (omega (arith, year (added_at k).ulae (omega (arith, p))))
      (more _ (omega (arith, year (added_at k).exposures (omega (arith, p)))) (more _ (omega (arith, cells_sum)) none)))))))))

  entries_small : Small (entries_of k xs)
  unfolding entries_of
  entries_small =
      let provision = one (starts_of k).provision (omega (arith, p)) in
      let reserve = one (starts_of k).reserve (omega (arith, p)) in
      more _ (omega arith)
      (more _ (omega arith)
      (more _ (omega (arith, one (starts_of k).ratio (omega (arith, p))))
      (more _ (omega (arith, sum_size_lem (figure_at xs (starts_of k).provision) (figure_at xs (starts_of k).reserve))) none)))

  compared_small : Small (compared_of k xs)
  unfolding compared_of tail_allowance
  compared_small =
      more _ (omega (arith, difference_size (sum_of (added_at k).ultimates (k + 1) xs) (sum_of (added_at k).ladder (k + 1) xs), year (added_at k).ultimates (omega (arith, p)), year (added_at k).ladder (omega (arith, p))))
      (more _ (omega (arith, sum_size_lem (sum_of (added_at k).allowances (k + 1) xs) (sum_of (added_at k).margins (k + 1) xs), year (added_at k).allowances (omega (arith, p)), year (added_at k).margins (omega (arith, p))))
      (more _ (omega (arith, few, sum_size_lem (sum_of (added_at k).exposures (k + 1) xs) (pos (100 * (k + 1))), year (added_at k).exposures (omega (arith, p)))) none))

  largest_small : Small (largest_sizes k xs)
  unfolding largest_sizes largest_cumulative
  largest_small =
      more _ (omega (arith, size (added_at k).exposures (k + 1) (omega (arith, few)) (omega (arith, p))))
      (more _ (omega (arith, size (added_at k).increments (cells k) (omega (arith, p)) (omega (arith, p))))
      (more _ (omega (arith, size (starts_of k).levels (k + 1) (omega (arith, few)) (omega (arith, p))))
      (more _ (omega (arith, size (added_at k).indices (k + 1) (omega (arith, few)) (omega (arith, p))))
      (more _ (omega (arith, size (added_at k).ultimates (k + 1) (omega (arith, few)) (omega (arith, p))))
      (more _ (omega (arith, size (starts_of k).factors k (omega (arith, few)) (omega (arith, p))))
      (more _
      (omega (arith, size (added_at k).cumulatives (cells k) (omega (arith, p)) (omega (arith, p)), size (starts_of k).completed (cells k - (k + 1)) (omega (arith, p)) (omega (arith, p))))
      none))))))

  fit_small : Small (fit_of k xs)
  unfolding fit_of
  fit_small =
      more _ (omega (arith, p, sizes_most (added_at k).gaps (cells k) xs (spans k xs few figured (added_at k).gaps (cells k) (omega (arith, p)) (omega (arith, p)))))
      (more _ (omega (arith, p, lost_most (added_at k).increments (section_start k average_section) (cells k) xs)) none)

given_small : (year k : ℕ) (correction : Correction) (weight tail : ℕ) → k < 16 → Told year correction weight tail → Small (given_of year k correction weight tail)
unfolding given_of
given_small year k correction weight tail few told =
    more _ (omega arith)
    (more _ (omega arith)
    (more _ (omega arith) (more _ (omega arith) (more _ (omega arith) (more _ (omega arith) (more _ (omega arith) (more _ (omega arith) none)))))))

limits_small : Small limits
unfolding limits
limits_small =
    more _ (omega arith)
    (more _ (omega arith)
    (more _ (omega arith)
    (more _ (omega arith) (more _ (omega arith) (more _ (omega arith) (more _ (omega arith) (more _ (omega arith) (more _ (omega arith) none))))))))

padded_small : (m : ℕ) (xs : List ℤ) → Small xs → Small (padded m (pos 0) xs)
unfolding padded
padded_small m xs s = both xs _ s (record { at = same_all (λ z. nat_abs z ≤ most) (pos 0) (pos 0) zero-le zero-le (m - length xs) })

pub summary_small : (year k : ℕ) (xs : List ℤ) (correction : Correction) (weight tail : ℕ) → k < 16 → Figured k xs → Told year correction weight tail
    → (p : ℕ) → nat_abs (get_or (summary_of year k xs correction weight tail) p (pos 0)) ≤ most
unfolding summary_of
summary_small year k xs correction weight tail few figured told =
    let last = both (given_of year k correction weight tail) limits (given_small year k correction weight tail few told) limits_small in
    let fitted = both (fit_of k xs) _ (fit_small k xs few figured) last in
    let sizes = both (largest_sizes k xs) _ (largest_small k xs few figured) fitted in
    let compared = both (compared_of k xs) _ (compared_small k xs few figured) sizes in
    let entered = both (entries_of k xs) _ (entries_small k xs few figured) compared in
    (padded_small singles _ (both (totals_of k xs) _ (totals_small k xs few figured) entered)).at
