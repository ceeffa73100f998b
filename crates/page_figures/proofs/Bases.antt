-- Sections that are worked out leave those before them as large as they are. Assumes nothing.
use Prim.Native.Nat.{ℕ, ◌+◌, ◌*◌, ◌≤◌, ◌<◌}
use native.Mathlib.Nat.{le_trans}
use native.Mathlib.Omega.{arith}
use mathlib.Core.Path.{◌≡◌, refl, ◌∙◌}
use mathlib.Core.List.{List}
use lib.IntN.{ℤ, pos, nat_abs}
use lib.ListN.{get_or}
use lib.Seq.{sets, length-sets}
use Rattle.rules.specs.Record.{million, cells}
use Rattle.rules.specs.Separation.{billion}
use Rattle.rules.specs.Results.{share_section, level_section, payment_section, tail_section, section_start}
use Rattle.vectors.specs.Vectors.{differences, running}
use Rattle.row_figures.specs.RowFigures.{row_sums, rows_running}
use Rattle.future_figures.specs.FutureFigures.{expected}
use Rattle.fitted_figures.specs.FittedFigures.{fitted}
use Rattle.allowance_figures.specs.Allowances.{allowances}
use Rattle.listing.proofs.Known.{known}
use Rattle.signed_sums.specs.Small.{Sized}
use Rattle.vectors.proofs.Before.{sized_before}
use Rattle.figure_places.specs.Places.{added_at}
use Rattle.figure_places.proofs.Known.{places_known}
use Rattle.page_figures.specs.Given.{most_given, Based}
use Rattle.page_figures.specs.Shown.{with_cumulatives, with_paid, with_running, with_changes, with_expected, with_fitted, with_allowances, with_margins}

-- fewer figures, and a larger size
pub sized_part : (b c m a n : ℕ) (xs : List ℤ) → b ≤ c → a + n ≤ m → Sized b 0 m xs → Sized c a n xs
sized_part b c m a n xs l h small i k =
    let e : 0 + (a + i) ≡ a + i = omega arith in
    le_trans (rw e at (small (a + i) (omega arith))) l

-- stores after the given sections
pub based_before : (k : ℕ) (xs : List ℤ) (at : ℕ) (ys : List ℤ) → (added_at k).cumulatives ≤ at → Based k xs → Based k (sets xs at ys)
based_before k xs at ys h b =
    let p = places_known (added_at k) k refl in
    let q = known k in
    record {
      long = length-sets xs at ys ∙ b.long;
      entries = sized_before most_given 0 (added_at k).cumulatives xs at ys (omega arith) b.entries;
      shares = sized_before billion (section_start k share_section) (k + 1) xs at ys (omega arith) b.shares;
      levels = sized_before billion (section_start k level_section) (k + 1) xs at ys (omega arith) b.levels;
      exposures = sized_before million (added_at k).exposures (k + 1) xs at ys (omega arith) b.exposures;
    }

-- sections that are worked out from the given ones keep them
pub based_cumulatives : (k : ℕ) (xs : List ℤ) → Based k xs → Based k (with_cumulatives k xs)
unfolding with_cumulatives
based_cumulatives k xs b = let p = places_known (added_at k) k refl in based_before k xs (added_at k).cumulatives (rows_running k (added_at k).increments xs) (omega arith) b

pub based_paid : (k : ℕ) (xs : List ℤ) → Based k xs → Based k (with_paid k xs)
unfolding with_paid
based_paid k xs b = let p = places_known (added_at k) k refl in based_before k xs (added_at k).paid (row_sums k (added_at k).increments xs) (omega arith) b

pub based_running : (k : ℕ) (xs : List ℤ) → Based k xs → Based k (with_running k xs)
unfolding with_running
based_running k xs b = let p = places_known (added_at k) k refl in based_before k xs (added_at k).running (running (section_start k share_section) (k + 1) xs) (omega arith) b

pub based_changes : (k : ℕ) (xs : List ℤ) → Based k xs → Based k (with_changes k xs)
unfolding with_changes
based_changes k xs b = let p = places_known (added_at k) k refl in based_before k xs (added_at k).changes (differences (section_start k level_section + 1) (section_start k level_section) (2 * k) xs) (omega arith) b

pub based_expected : (k : ℕ) (xs : List ℤ) → Based k xs → Based k (with_expected k xs)
unfolding with_expected
based_expected k xs b = let p = places_known (added_at k) k refl in based_before k xs (added_at k).expected (expected k (section_start k payment_section) (section_start k tail_section) xs) (omega arith) b

pub based_fitted : (k : ℕ) (xs : List ℤ) → Based k xs → Based k (with_fitted k xs)
unfolding with_fitted
based_fitted k xs b = let p = places_known (added_at k) k refl in based_before k xs (added_at k).fitted (fitted k (section_start k share_section) (section_start k level_section) xs) (omega arith) b

pub based_allowances : (k : ℕ) (xs : List ℤ) → Based k xs → Based k (with_allowances k xs)
unfolding with_allowances
based_allowances k xs b = let p = places_known (added_at k) k refl in based_before k xs (added_at k).allowances (allowances 0 k (added_at k).exposures xs) (omega arith) b

pub based_margins : (k : ℕ) (xs : List ℤ) → Based k xs → Based k (with_margins k xs)
unfolding with_margins
based_margins k xs b = let p = places_known (added_at k) k refl in based_before k xs (added_at k).margins (allowances 300 k (added_at k).exposures xs) (omega arith) b
