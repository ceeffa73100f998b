-- What an accepted run gives a report: a list and numbers that are not too large. Assumes nothing.
use Prim.Native.Nat.{ℕ, ◌+◌, ◌≤◌}
use native.Mathlib.Omega.{arith}
use mathlib.Core.Path.{◌≡◌, ap}
use mathlib.Core.List.{List}
use lib.IntN.{pos}
use lib.ListN.{length, drop, replicate, length-append}
use Rattle.rules.specs.Packing.{Fit}
use Rattle.rules.specs.Record.{figures_of}
use Rattle.rules.specs.Results.{most_entries, results_of}
use Rattle.rules.specs.Engine.{run_answer}
use Rattle.results.proofs.SectionPlaces.{results_length}
use Rattle.reading.specs.Reading.{Sound}
use Rattle.growth.specs.declared.Correction.{Correction}
use Rattle.outcomes.specs.Outcome.{filled_by, InRange}
use Rattle.outcomes.proofs.Passed.{accepted, opening, fields}
use Rattle.outcomes.proofs.Accepted.{filled}
use Rattle.list_sizes.proofs.Accepted.{all_entries, share_entries, level_entries}
use Rattle.record_figures.specs.RecordFigures.{record_figures, Listed}
use Rattle.record_figures.proofs.Read.{sound, record-figured}
use Rattle.page_figures.specs.Given.{Figured}
use Rattle.summary_figures.specs.Summary.{Told}

module _ (year : ℕ) (s : List ℕ) (bytes : Fit 8 s) (ok : run_answer year s most_entries ≡ 0) where
  pub listed : Listed (figures_of s).k (filled_by year s)
  listed =
      let f = figures_of s in
      let rest = drop (0 + length (results_of year f)) (replicate most_entries (pos 0)) in
      record {
        long = omega (arith, ap length (filled year s ok), length-append (results_of year f) rest, results_length year f);
        entries = λ i h. let e : 0 + i ≡ i = omega arith in rw e (all_entries year s ok bytes i h);
        shares = share_entries year s ok bytes;
        levels = level_entries year s ok bytes;
      }

  abbrev good : Sound (figures_of s)
  good = sound s bytes (opening year s (accepted year s ok)) (fields year s (accepted year s ok))

  pub figured_by : Figured (figures_of s).k (record_figures (filled_by year s) s)
  figured_by = record-figured s bytes (opening year s (accepted year s ok)) (fields year s (accepted year s ok)) (filled_by year s) listed

  pub told_by : year ≤ 65535 → (x : Correction) → InRange x → Told year x (figures_of s).weight (figures_of s).tail
  told_by h x range =
      let w = good.weight in
      let t = good.tail in
      record {
        year_most = omega arith;
        plain_most = range.plain;
        reported_most = range.reported;
        paid_most = range.paid;
        divisor_most = range.divisor;
        weight_most = omega arith;
        tail_most = omega arith;
      }
