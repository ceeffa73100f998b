-- What stands in the array of the report's figures, each section as it is worked out from figures of the same array: every store stays (Kept). Assumes nothing.
use Prim.Native.Nat.{ℕ, suc, ◌+◌, ◌-◌, ◌*◌, ◌≤◌, ◌<◌}
use native.Mathlib.Omega.{arith}
use mathlib.Core.Path.{◌≡◌, refl, sym, ap, ap₂, ◌∙◌}
use mathlib.Core.Bool.{true, false}
use mathlib.Core.List.{List, map}
use lib.IntN.{ℤ, pos, nat_abs, ◌+ℤ◌, ◌-ℤ◌}
use lib.ListN.{length, get_or, take, replicate, length-map, length-replicate, get_or-map}
use lib.Seq.{sets, get_or-take, length-take-le}
use Rattle.rules.specs.Record.{Figures, cells}
use Rattle.rules.specs.Triangle.{sum_to, row_start, future_start}
use Rattle.rules.specs.Results.{average_section, share_section, level_section, payment_section, provision_section, completed_section, tail_section, result_count, section_start}
use Rattle.laws.proofs.Sums.{sum_to_same}
use Rattle.laws.proofs.TriangleRows.{row_within}
use Rattle.listing.specs.Starts.{starts_of}
use Rattle.listing.proofs.Known.{known}
use Rattle.vectors.specs.Vectors.{most_figures, figure_at, combined, sums, differences, running}
use Rattle.row_figures.specs.RowFigures.{row_sums, rows_running}
use Rattle.future_figures.specs.FutureFigures.{ladder_ultimates, expected_payments, expected}
use Rattle.future_figures.proofs.Future.{payment_inside}
use Rattle.fitted_figures.specs.FittedFigures.{fitted}
use Rattle.allowance_figures.specs.Allowances.{allowance, allowances}
use Rattle.figure_places.specs.Places.{added_at}
use Rattle.page_figures.specs.Shown.{result_figures, triangle_figures, with_assumptions, given_figures, with_cumulatives, with_paid, with_running, with_changes, with_expected, with_fitted, with_allowances, with_margins, with_ladder, with_remaining, with_ultimates, with_gaps, with_differences, with_gap_sums, worked_triangles, worked_figures, combined_figures, shown_figures}
use Rattle.page_figures.proofs.Numbers.{Numbers, numbers}
use Rattle.shown_allowances.proofs.Kept.{Kept, kept_self, kept_before, kept_at, kept_value, kept_combined, kept_allowances}

-- the sections of the array xs, of the figures f and a result list: what is taken over, and what is worked out from other figures of the array
pub record Standing (f : Figures) (list xs : List ℤ) : Type 0 where
  pub results : (i : ℕ) → i < result_count f.k → figure_at xs i ≡ get_or list i (pos 0)
  pub exposures : (i : ℕ) → i ≤ f.k → figure_at xs ((added_at f.k).exposures + i) ≡ pos (get_or f.exposures i 0)
  pub increments : (c : ℕ) → c < cells f.k → figure_at xs ((added_at f.k).increments + c) ≡ get_or f.increments c (pos 0)
  pub paid : (i : ℕ) → i ≤ f.k → figure_at xs ((added_at f.k).paid + i) ≡ sum_to (λ j. figure_at xs ((added_at f.k).increments + (row_start f.k i + j))) (f.k + 1 - i)
  pub expected : (t : ℕ) → t ≤ f.k → figure_at xs ((added_at f.k).expected + t) ≡ expected_payments f.k (section_start f.k payment_section) (section_start f.k tail_section) xs t
  pub allowances : (i : ℕ) → i ≤ f.k → figure_at xs ((added_at f.k).allowances + i) ≡ pos (allowance (nat_abs (figure_at xs ((added_at f.k).exposures + i))) i + 0)
  pub margins : (i : ℕ) → i ≤ f.k → figure_at xs ((added_at f.k).margins + i) ≡ pos (allowance (nat_abs (figure_at xs ((added_at f.k).exposures + i))) i + 300)
  pub remaining : (i : ℕ) → i ≤ f.k → figure_at xs ((added_at f.k).remaining + i) ≡ figure_at xs ((added_at f.k).ladder + i) -ℤ figure_at xs ((added_at f.k).paid + i)
  pub ultimates : (i : ℕ) → i ≤ f.k → figure_at xs ((added_at f.k).ultimates + i) ≡ figure_at xs ((added_at f.k).paid + i) +ℤ figure_at xs (section_start f.k provision_section + i)
  pub differences : (i : ℕ) → i ≤ f.k → figure_at xs ((added_at f.k).differences + i) ≡ figure_at xs ((added_at f.k).ultimates + i) -ℤ figure_at xs ((added_at f.k).ladder + i)

module _ (f : Figures) (few : f.k < 16) (list : List ℤ) (results : result_count f.k ≤ length list) (claims : f.k + 1 ≤ length f.exposures) (payments : cells f.k ≤ length f.increments) where
  abbrev k : ℕ
  k = f.k

  abbrev n : List ℕ
  n = f.exposures

  abbrev p : List ℤ
  p = f.increments

  places : Numbers (added_at k) (starts_of k) k
  places = numbers (added_at k) (starts_of k) k few refl refl

  -- the arrays one after another
  abbrev zs : List ℤ
  zs = shown_figures k list n p f.indices f.reporting f.ulae

  abbrev g0 : List ℤ
  g0 = result_figures k list

  abbrev g1 : List ℤ
  g1 = sets g0 (added_at k).exposures (map pos (take (k + 1) n))

  abbrev g2 : List ℤ
  g2 = sets g1 (added_at k).increments (take (cells k) p)

  abbrev x0 : List ℤ
  x0 = given_figures k list n p f.indices f.reporting f.ulae

  abbrev x1 : List ℤ
  x1 = with_cumulatives k x0

  abbrev x2 : List ℤ
  x2 = with_paid k x1

  abbrev x3 : List ℤ
  x3 = with_running k x2

  abbrev x4 : List ℤ
  x4 = with_changes k x3

  abbrev x5 : List ℤ
  x5 = with_expected k x4

  abbrev x6 : List ℤ
  x6 = with_fitted k x5

  abbrev x7 : List ℤ
  x7 = with_allowances k x6

  abbrev x8 : List ℤ
  x8 = with_margins k x7

  abbrev x9 : List ℤ
  x9 = with_ladder k x8

  abbrev x10 : List ℤ
  x10 = with_remaining k x9

  abbrev x11 : List ℤ
  x11 = with_ultimates k x10

  abbrev x12 : List ℤ
  x12 = with_gaps k x11

  abbrev x13 : List ℤ
  x13 = with_differences k x12

  -- each is kept in the last
  k14 : Kept ((added_at k).sums + (k + 1)) (with_gap_sums k x13) zs
  unfolding shown_figures worked_triangles worked_figures combined_figures
  k14 = kept_self ((added_at k).sums + (k + 1)) (with_gap_sums k x13)

  k13 : Kept (added_at k).sums x13 zs
  unfolding with_gap_sums
  k13 = kept_before (added_at k).sums ((added_at k).sums + (k + 1)) x13 (row_sums k (added_at k).gaps x13) zs k14 (omega arith)

  k12 : Kept (added_at k).differences x12 zs
  unfolding with_differences
  k12 = let m = places in kept_before (added_at k).differences (added_at k).sums x12 (differences (added_at k).ultimates (added_at k).ladder (k + 1) x12) zs k13 (omega arith)

  k11 : Kept (added_at k).gaps x11 zs
  unfolding with_gaps
  k11 = let m = places in kept_before (added_at k).gaps (added_at k).differences x11 (differences (section_start k average_section) (added_at k).fitted (cells k) x11) zs k12 (omega arith)

  k10 : Kept (added_at k).ultimates x10 zs
  unfolding with_ultimates
  k10 = let m = places in kept_before (added_at k).ultimates (added_at k).gaps x10 (sums (added_at k).paid (section_start k provision_section) (k + 1) x10) zs k11 (omega arith)

  k9 : Kept (added_at k).remaining x9 zs
  unfolding with_remaining
  k9 = let m = places in kept_before (added_at k).remaining (added_at k).ultimates x9 (differences (added_at k).ladder (added_at k).paid (k + 1) x9) zs k10 (omega arith)

  k8 : Kept (added_at k).ladder x8 zs
  unfolding with_ladder
  k8 = let m = places in kept_before (added_at k).ladder (added_at k).remaining x8 (ladder_ultimates k (added_at k).paid (section_start k completed_section) x8) zs k9 (omega arith)

  k7 : Kept (added_at k).margins x7 zs
  unfolding with_margins
  k7 = let m = places in kept_before (added_at k).margins (added_at k).ladder x7 (allowances 300 k (added_at k).exposures x7) zs k8 (omega arith)

  k6 : Kept (added_at k).allowances x6 zs
  unfolding with_allowances
  k6 = let m = places in kept_before (added_at k).allowances (added_at k).margins x6 (allowances 0 k (added_at k).exposures x6) zs k7 (omega arith)

  k5 : Kept (added_at k).fitted x5 zs
  unfolding with_fitted
  k5 = let m = places in kept_before (added_at k).fitted (added_at k).allowances x5 (fitted k (section_start k share_section) (section_start k level_section) x5) zs k6 (omega arith)

  k4 : Kept (added_at k).expected x4 zs
  unfolding with_expected
  k4 = let m = places in kept_before (added_at k).expected (added_at k).fitted x4 (expected k (section_start k payment_section) (section_start k tail_section) x4) zs k5 (omega arith)

  k3 : Kept (added_at k).changes x3 zs
  unfolding with_changes
  k3 = let m = places in kept_before (added_at k).changes (added_at k).expected x3 (differences (section_start k level_section + 1) (section_start k level_section) (2 * k) x3) zs k4 (omega arith)

  k2 : Kept (added_at k).running x2 zs
  unfolding with_running
  k2 = let m = places in kept_before (added_at k).running (added_at k).changes x2 (running (section_start k share_section) (k + 1) x2) zs k3 (omega arith)

  k1 : Kept (added_at k).paid x1 zs
  unfolding with_paid
  k1 = let m = places in kept_before (added_at k).paid (added_at k).running x1 (row_sums k (added_at k).increments x1) zs k2 (omega arith)

  k0 : Kept (added_at k).cumulatives x0 zs
  unfolding with_cumulatives
  k0 = let m = places in kept_before (added_at k).cumulatives (added_at k).paid x0 (rows_running k (added_at k).increments x0) zs k1 (omega arith)

  j2 : Kept (added_at k).indices g2 zs
  unfolding given_figures with_assumptions triangle_figures
  j2 =
      let m = places in
      let y3 = map pos (take (k + 1) f.indices) in
      let y4 = map pos (take (k + 1) f.reporting) in
      let y5 = map pos (take (k + 1) f.ulae) in
      let g3 = sets g2 (added_at k).indices y3 in
      let g4 = sets g3 (added_at k).reporting y4 in
      kept_before (added_at k).indices (added_at k).reporting g2 y3 zs
      (kept_before (added_at k).reporting (added_at k).ulae g3 y4 zs (kept_before (added_at k).ulae (added_at k).cumulatives g4 y5 zs k0 (omega arith)) (omega arith)) (omega arith)

  j1 : Kept (added_at k).increments g1 zs
  j1 = let m = places in kept_before (added_at k).increments (added_at k).indices g1 (take (cells k) p) zs j2 (omega arith)

  j0 : Kept (added_at k).exposures g0 zs
  j0 = let m = places in kept_before (added_at k).exposures (added_at k).increments g0 (map pos (take (k + 1) n)) zs j1 (omega arith)

  long : length zs ≡ most_figures
  unfolding result_figures
  long =
      let zeros = replicate most_figures (pos 0) in
      (kept_before 0 (added_at k).exposures zeros (take (result_count k) list) zs j0 (omega arith)).long ∙ length-replicate most_figures (pos 0)

  -- the result list, the exposures and the increments
  result_at : (i : ℕ) → i < result_count k → figure_at zs i ≡ get_or list i (pos 0)
  unfolding result_figures
  result_at i l =
      let m = places in
      let size = length-take-le (result_count k) list results in
      let same : 0 + i ≡ i = omega arith in
      (rw same at (kept_at 0 (added_at k).exposures (replicate most_figures (pos 0)) (take (result_count k) list) zs j0 (omega arith) (omega (arith, long)) i (omega arith)))
      ∙ get_or-take (result_count k) list i (pos 0) l

  exposure_at : (i : ℕ) → i ≤ k → figure_at zs ((added_at k).exposures + i) ≡ pos (get_or n i 0)
  exposure_at i l =
      let m = places in
      let size = length-map (take (k + 1) n) pos ∙ length-take-le (k + 1) n claims in
      kept_at (added_at k).exposures (added_at k).increments g0 (map pos (take (k + 1) n)) zs j1 (omega arith) (omega (arith, long)) i (omega arith)
      ∙ get_or-map pos (take (k + 1) n) i 0
      ∙ ap pos (get_or-take (k + 1) n i 0 (omega arith))

  increment_at : (c : ℕ) → c < cells k → figure_at zs ((added_at k).increments + c) ≡ get_or p c (pos 0)
  increment_at c l =
      let m = places in
      let size = length-take-le (cells k) p payments in
      kept_at (added_at k).increments (added_at k).indices g1 (take (cells k) p) zs j2 (omega arith) (omega (arith, long)) c (omega arith)
      ∙ get_or-take (cells k) p c (pos 0) l

  -- what is paid
  paid_at_lem : (i : ℕ) → i ≤ k → figure_at zs ((added_at k).paid + i) ≡ sum_to (λ j. figure_at zs ((added_at k).increments + (row_start k i + j))) (k + 1 - i)
  unfolding with_paid row_sums
  paid_at_lem i h =
      let m = places in
      let inside = row_within k i h in
      kept_value (added_at k).paid (added_at k).running x1 zs (λ r. sum_to (λ j. figure_at x1 ((added_at k).increments + row_start k r + j)) (k + 1 - r)) (k + 1) k2 (omega arith) (omega (arith, long)) i (omega arith)
      ∙ sum_to_same _ _ (k + 1 - i)
      (λ j l.
      let same : (added_at k).increments + row_start k i + j ≡ (added_at k).increments + (row_start k i + j) = omega arith in
      rw same (sym (k1.same ((added_at k).increments + (row_start k i + j)) (omega arith))))

  -- the payments expected
  expected_at : (t : ℕ) → t ≤ k → figure_at zs ((added_at k).expected + t) ≡ expected_payments k (section_start k payment_section) (section_start k tail_section) zs t
  unfolding with_expected expected expected_payments
  expected_at t h =
      let m = places in
      let q = known k in
      let y = section_start k payment_section in
      let z = section_start k tail_section in
      kept_value (added_at k).expected (added_at k).fitted x4 zs (expected_payments k y z x4) (k + 1) k5 (omega arith) (omega (arith, long)) t (omega arith)
      ∙ ap₂ (λ (a b : ℤ). a +ℤ b)
      (sum_to_same _ _ (k - t)
      (λ r l. sym (k4.same (y + (future_start (suc (t + r)) + t)) (omega (arith, payment_inside k (t + r) t (omega arith) (omega arith)))))) (sym (k4.same (z + t) (omega arith)))

  -- the allowances
  allowance_at_lem : (i : ℕ) → i ≤ k → figure_at zs ((added_at k).allowances + i) ≡ pos (allowance (nat_abs (figure_at zs ((added_at k).exposures + i))) i + 0)
  unfolding with_allowances
  allowance_at_lem = let m = places in kept_allowances 0 k (added_at k).exposures (added_at k).allowances (added_at k).margins x6 zs k7 (omega arith) (omega arith) (omega (arith, long))

  margin_at_lem : (i : ℕ) → i ≤ k → figure_at zs ((added_at k).margins + i) ≡ pos (allowance (nat_abs (figure_at zs ((added_at k).exposures + i))) i + 300)
  unfolding with_margins
  margin_at_lem = let m = places in kept_allowances 300 k (added_at k).exposures (added_at k).margins (added_at k).ladder x7 zs k8 (omega arith) (omega arith) (omega (arith, long))

  -- sums and differences of two sections
  remaining_at : (i : ℕ) → i ≤ k → figure_at zs ((added_at k).remaining + i) ≡ figure_at zs ((added_at k).ladder + i) -ℤ figure_at zs ((added_at k).paid + i)
  unfolding with_remaining combined
  remaining_at i h =
      let m = places in
      kept_combined true (added_at k).ladder (added_at k).paid (k + 1) (added_at k).remaining (added_at k).ultimates x9 zs k10 (omega arith) (omega arith) (omega arith) (omega (arith, long)) i (omega arith)

  ultimate_at_lem : (i : ℕ) → i ≤ k → figure_at zs ((added_at k).ultimates + i) ≡ figure_at zs ((added_at k).paid + i) +ℤ figure_at zs (section_start k provision_section + i)
  unfolding with_ultimates combined
  ultimate_at_lem i h =
      let m = places in
      let q = known k in
      kept_combined false (added_at k).paid (section_start k provision_section) (k + 1) (added_at k).ultimates (added_at k).gaps x10 zs k11 (omega arith) (omega arith) (omega arith) (omega (arith, long)) i (omega arith)

  difference_at_lem : (i : ℕ) → i ≤ k → figure_at zs ((added_at k).differences + i) ≡ figure_at zs ((added_at k).ultimates + i) -ℤ figure_at zs ((added_at k).ladder + i)
  unfolding with_differences combined
  difference_at_lem i h =
      let m = places in
      kept_combined true (added_at k).ultimates (added_at k).ladder (k + 1) (added_at k).differences (added_at k).sums x12 zs k13 (omega arith) (omega arith) (omega arith) (omega (arith, long)) i (omega arith)

  pub standing : Standing f list (shown_figures f.k list f.exposures f.increments f.indices f.reporting f.ulae)
  standing = record {
    results = result_at;
    exposures = exposure_at;
    increments = increment_at;
    paid = paid_at_lem;
    expected = expected_at;
    allowances = allowance_at_lem;
    margins = margin_at_lem;
    remaining = remaining_at;
    ultimates = ultimate_at_lem;
    differences = difference_at_lem;
  }
