-- From a program's input to the page or the comma-separated values of a hindsight run. The input has the parts of a report's (crate `titled_input`), with the settings
-- in the place of the line of inflation; its valuation year is not used. Assumes nothing.
use Rattle.std.specs.Prelude.{ℕ, Bool, List, ℤ, pos, length}
use Rattle.rules.specs.Lists.{padded}
use Rattle.rules.specs.Record.{last_year_of}
use Rattle.rules.specs.Hindsight.{most_settings, most_hindsight}
use Rattle.titled_input.specs.Titled.{first_in, title_in, rates_in, titled_record_in}
use Rattle.settings_line.specs.Settings.{settings_of}
use Rattle.hindsight_run.specs.Listed.{has_report, report_of, said_of}
use Rattle.hindsight_page.specs.Page.{hindsight_page}
use Rattle.hindsight_csv.specs.Csv.{hindsight_csv}

-- the line of settings of an input, and its record
abbrev pub line_in : List ℕ → List ℕ
line_in input = rates_in input

abbrev pub packed_in : List ℕ → List ℕ
packed_in input = titled_record_in input

-- whether an input has a report, and what is said where it has none
abbrev pub has_report_in : List ℕ → Bool
has_report_in input = has_report (line_in input) (packed_in input)

abbrev pub said_in : List ℕ → List ℕ
said_in input = said_of (line_in input) (packed_in input)

-- its k, how many settings it has, and the settings and the report, each zero past its end
abbrev pub years_in : List ℕ → ℕ
years_in input = last_year_of (packed_in input)

abbrev pub count_in : List ℕ → ℕ
count_in input = length (settings_of (line_in input))

abbrev pub shown_settings : List ℕ → List ℕ
shown_settings input = padded most_settings 0 (settings_of (line_in input))

unfoldable pub shown_report : List ℕ → List ℤ
shown_report input = padded most_hindsight (pos 0) (report_of (line_in input) (packed_in input))

-- the page of an input that has a report, and its comma-separated values
unfoldable pub page_of : Bool → List ℕ → List ℕ
page_of html input =
    hindsight_page html (title_in input) (first_in input) (years_in input) (count_in input) (shown_settings input) (shown_report input)

unfoldable pub csv_of : List ℕ → List ℕ
csv_of input = hindsight_csv (first_in input) (years_in input) (count_in input) (shown_settings input) (shown_report input)
