-- The run of the record s in a valuation year as comma-separated values: its result list and what corrects its ULAE ratio, or the question that said no in words.
-- Assumes nothing.
use Rattle.std.specs.Prelude.{ℕ, cond, List, eqb}
use Rattle.rules.specs.Record.{last_year_of}
use Rattle.rules.specs.Results.{most_entries}
use Rattle.rules.specs.Engine.{run_answer}
use Rattle.refusals.specs.Refusal.{refusal_of}
use Rattle.outcomes.specs.Outcome.{filled_by, correction_by}
use Rattle.csv_text.specs.Csv.{csv_of}

unfoldable pub csv_report_of : ℕ → List ℕ → List ℕ
csv_report_of year s =
    cond (eqb (run_answer year s most_entries) 0) (csv_of year (last_year_of s) (filled_by year s) (correction_by year s)) (refusal_of s (run_answer year s most_entries))
