-- The report of the record s in a valuation year, as a page of HTML or of text, with a title, a line of inflation and a first origin year: of an accepted run its figures, of
-- a refused one the question that said no. Of the line it says what its rates are where they make the indices of s, and nothing otherwise. Assumes nothing.
use Rattle.std.specs.Prelude.{ℕ, Bool, cond, List, eqb, ℤ}
use Rattle.rules.specs.Record.{last_year_of, figures_of}
use Rattle.rules.specs.Results.{most_entries}
use Rattle.rules.specs.Engine.{run_answer}
use Rattle.outcomes.specs.Outcome.{filled_by, correction_by}
use Rattle.valuation.specs.Valuation.{year_in}
use Rattle.titled_input.specs.Titled.{first_in, title_in, rates_in, titled_record_in}
use Rattle.record_figures.specs.RecordFigures.{record_figures}
use Rattle.summary_figures.specs.Summary.{summary_of}
use Rattle.rates_shown.specs.RatesShown.{shown_rates}
use Rattle.accepted_page.specs.AcceptedPage.{accepted_page}
use Rattle.refused_page.specs.RefusedPage.{refused_page}

-- the figures of an accepted run, and its single figures
abbrev pub figures_by : ℕ → List ℕ → List ℤ
figures_by year s = record_figures (filled_by year s) s

abbrev pub singles_by : ℕ → List ℕ → List ℤ
singles_by year s = summary_of year (last_year_of s) (figures_by year s) (correction_by year s) (figures_of s).weight (figures_of s).tail

-- the report
unfoldable pub report_of : Bool → List ℕ → List ℕ → ℕ → ℕ → List ℕ → List ℕ
report_of html title line year first s =
    let rates = shown_rates s line in
    cond (eqb (run_answer year s most_entries) 0) (accepted_page html title rates year first (last_year_of s) s (figures_by year s) (singles_by year s))
    (refused_page html title rates year first s (run_answer year s most_entries))

-- of a program's input
unfoldable pub report_in : Bool → List ℕ → List ℕ
report_in html input = report_of html (title_in input) (rates_in input) (year_in input) (first_in input) (titled_record_in input)
