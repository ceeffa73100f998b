-- A list of zeros stands in for the result list where there is none. Assumes nothing.
use Prim.Native.Nat.{ℕ, ◌+◌, ◌≤◌, ◌<◌, zero-le}
use native.Mathlib.Omega.{arith}
use mathlib.Core.Path.{◌≡◌}
use mathlib.Core.List.{List}
use lib.IntN.{ℤ, pos, nat_abs}
use lib.ListN.{replicate, length-replicate}
use Rattle.rules.specs.Packing.{Fit}
use Rattle.rules.specs.Questions.{first_no}
use Rattle.rules.specs.Record.{figures_of}
use Rattle.rules.specs.Reading.{opening_questions, field_questions}
use Rattle.rules.specs.Separation.{billion}
use Rattle.rules.specs.Results.{share_section, level_section, result_count, section_start, most_entries}
use Rattle.laws.proofs.Padded.{same_all}
use Rattle.laws.proofs.TriangleRows.{cells_most}
use Rattle.listing.proofs.Counts.{results_count}
use Rattle.signed_sums.specs.Small.{Sized}
use Rattle.page_figures.specs.Given.{most_given, Figured}
use Rattle.record_figures.specs.RecordFigures.{Listed}
use Rattle.record_figures.proofs.Read.{sound, record-figured}
use Rattle.reading.specs.Reading.{Sound}
use Rattle.summary_figures.specs.Summary.{Told}
use Rattle.refused_page.specs.RefusedPage.{input_figures, no_correction}

zeros_sized : (b a n : ℕ) → Sized b a n (replicate most_entries (pos 0))
zeros_sized b a n i h = same_all (λ (z : ℤ). nat_abs z ≤ b) (pos 0) (pos 0) zero-le zero-le most_entries (a + i)

pub zeros_listed : (k : ℕ) → k < 16 → Listed k (replicate most_entries (pos 0))
zeros_listed k h =
    record {
      long = omega (arith, results_count k, cells_most k h, length-replicate most_entries (pos 0));
      entries = zeros_sized most_given 0 (result_count k);
      shares = zeros_sized billion (section_start k share_section) (k + 1);
      levels = zeros_sized billion (section_start k level_section) (k + 1);
    }

-- of a record that has passed questions 1, 2, 4 and 5
module _ (s : List ℕ) (bytes : Fit 8 s) (one : first_no (opening_questions s) ≡ 0) (four : first_no (field_questions s) ≡ 0) where
  abbrev good : Sound (figures_of s)
  good = sound s bytes one four

  pub input_figured : Figured (figures_of s).k (input_figures s)
  unfolding input_figures
  input_figured = record-figured s bytes one four (replicate most_entries (pos 0)) (zeros_listed (figures_of s).k good.few)

  pub input_told : (year : ℕ) → year ≤ 65535 → Told year no_correction (figures_of s).weight (figures_of s).tail
  input_told year h =
      let w = good.weight in
      let t = good.tail in
      record {
        year_most = omega arith;
        plain_most = omega arith;
        reported_most = omega arith;
        paid_most = omega arith;
        divisor_most = omega arith;
        weight_most = omega arith;
        tail_most = omega arith;
      }
