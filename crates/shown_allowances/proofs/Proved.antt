-- What the report says is proved, of every accepted run: the third demand of the list that the run fills (engine), and where the list stands in the report's array. Assumes nothing.
use Prim.Native.Nat.{ℕ, ◌+◌, ◌-◌, ◌≤◌}
use native.Mathlib.Omega.{arith}
use mathlib.Core.Path.{◌≡◌, refl}
use mathlib.Core.List.{List}
use lib.IntN.{pos}
use lib.ListN.{length, drop, replicate, length-append, length-replicate}
use Rattle.rules.specs.Packing.{Fit}
use Rattle.rules.specs.Lists.{padded}
use Rattle.rules.specs.Record.{cells, last_year_of, fields_of, exposures_in, increments_in, figures_of}
use Rattle.rules.specs.Results.{most_entries, result_count, results_of}
use Rattle.rules.specs.Demand.{ThirdDemand}
use Rattle.rules.specs.Engine.{run_answer, run_into}
use Rattle.laws.proofs.TriangleRows.{cells_most}
use Rattle.reading.specs.Reading.{Sound}
use Rattle.results.proofs.SectionPlaces.{results_length}
use Rattle.engine.proofs.Run.{ran}
use Rattle.outcomes.specs.Outcome.{filled_by}
use Rattle.outcomes.proofs.Passed.{accepted, cumulatives, sound}
use Rattle.outcomes.proofs.Accepted.{filled}
use Rattle.record_figures.specs.RecordFigures.{record_figures}
use Rattle.shown_allowances.specs.Proved.{ShownProved}
use Rattle.shown_allowances.proofs.Standing as array
use Rattle.shown_allowances.proofs.Entries as sums
use Rattle.shown_allowances.proofs.Amounts.{Listed, listed, amounts}
use Rattle.shown_allowances.proofs.Allowing.{allowed}
use Rattle.shown_allowances.proofs.Balancing.{balanced}
use Rattle.shown_allowances.proofs.Nearing.{shown_within}

-- an array is as long as it is meant to be at least
padded_least : {A : Type 0} (m : ℕ) (z : A) (xs : List A) → m ≤ length (padded m z xs)
unfolding padded
padded_least m z xs = omega (arith, length-append xs (replicate (m - length xs) z), length-replicate (m - length xs) z)

module _ (year : ℕ) (s : List ℕ) (ok : run_answer year s most_entries ≡ 0) (bytes : Fit 8 s) where
  -- the third demand, by the law that carries the contract of the engine
  pub demand : ThirdDemand (figures_of s) (filled_by year s)
  unfolding run_answer run_into
  demand = (ran year s (replicate most_entries (pos 0)) bytes (run_answer year s most_entries) (filled_by year s) (refl, refl)).1.1 ok

  good : Sound (figures_of s)
  good = sound year s (accepted year s ok) bytes

  -- the list and the arrays of fields are long enough
  results_long : result_count (figures_of s).k ≤ length (filled_by year s)
  results_long =
      let list = results_of year (figures_of s) in
      rw (filled year s ok) (omega (arith, length-append list (drop (0 + length list) (replicate most_entries (pos 0))), results_length year (figures_of s)))

  claims_long : (figures_of s).k + 1 ≤ length (figures_of s).exposures
  unfolding figures_of
  claims_long = omega (arith, good.few, padded_least {A = ℕ} 16 0 (exposures_in (last_year_of s) (fields_of s)))

  payments_long : cells (figures_of s).k ≤ length (figures_of s).increments
  unfolding figures_of
  payments_long = omega (arith, cells_most (figures_of s).k good.few, padded_least 136 (pos 0) (increments_in (last_year_of s) (fields_of s)))

  standing : array.Standing (figures_of s) (filled_by year s) (record_figures (filled_by year s) s)
  unfolding record_figures
  standing = array.standing (figures_of s) good.few (filled_by year s) results_long claims_long payments_long

  entries : sums.Entries (figures_of s).k (filled_by year s)
  entries = rw (filled year s ok) (sums.entries year (figures_of s) (drop (0 + length (results_of year (figures_of s))) (replicate most_entries (pos 0))))

  listing : Listed (figures_of s).k (filled_by year s) (record_figures (filled_by year s) s)
  listing = listed (figures_of s) good.few (filled_by year s) (record_figures (filled_by year s) s) standing demand

  -- all that the report says is proved
  pub shown_proved : ShownProved (figures_of s) (filled_by year s) (record_figures (filled_by year s) s)
  shown_proved =
      let f = figures_of s in
      let list = filled_by year s in
      let xs = record_figures list s in
      let shown = amounts f good.few list xs standing demand (cumulatives year s (accepted year s ok)) in
      let beside = allowed f list xs standing in
      record {
        amounts = shown;
        allowed = beside;
        balanced = balanced f list xs standing entries listing;
        within = λ D E x y solves. shown_within f list xs standing listing shown beside D x (demand.carried D E x y solves);
      }
