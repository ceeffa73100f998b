-- From a program's input to the page or the comma-separated values of a history. The input has the parts of a report's (crate `titled_input`), with the text of a history in the
-- place of the record; its valuation year and its line of inflation are not used. Assumes nothing.
use Rattle.std.specs.Prelude.{ℕ, Bool, List, ℤ, pos}
use Rattle.rules.specs.Lists.{padded}
use Rattle.rules.specs.History.{most_history_entries}
use Rattle.titled_input.specs.Titled.{first_in, title_in, titled_record_in}
use Rattle.history_run.specs.Listed.{years_of, width_of, list_of}
use Rattle.history_page.specs.Page.{history_page}
use Rattle.history_csv.specs.Csv.{history_csv}

-- the text of an input
abbrev pub text_in : List ℕ → List ℕ
text_in input = titled_record_in input

-- the list of a text that has one, zero past it
unfoldable pub shown_list : List ℕ → List ℤ
shown_list text = padded most_history_entries (pos 0) (list_of text)

-- the page of an input whose text has a list, and its comma-separated values
unfoldable pub page_of : Bool → List ℕ → List ℕ
page_of html input = history_page html (title_in input) (first_in input) (years_of (text_in input)) (width_of (text_in input)) (shown_list (text_in input))

unfoldable pub csv_of : List ℕ → List ℕ
csv_of input = history_csv (first_in input) (years_of (text_in input)) (width_of (text_in input)) (shown_list (text_in input))
