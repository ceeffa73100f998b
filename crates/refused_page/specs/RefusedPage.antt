-- The report of a record s that question n refuses: where it says no and what is not so, the inputs where they can be read, with the line of inflation whose rates made the
-- indices, where there is one, and the record. Assumes nothing.
use Rattle.std.specs.Prelude.{ℕ, Bool, true, false, not, ◌&&◌, cond, List, [], ◌++◌, eqb, ℤ, pos, length, replicate}
use Rattle.rules.specs.Record.{last_year_of, figures_of}
use Rattle.rules.specs.Results.{most_entries, square_of}
use Rattle.growth.specs.declared.Correction.{Correction}
use Rattle.record_figures.specs.RecordFigures.{record_figures}
use Rattle.summary_figures.specs.Summary.{summary_of}
use Rattle.page_frame.specs.Frame.{page_start, page_end}
use Rattle.page_opening.specs.Opening.{opening_text}
use Rattle.findings.specs.Findings.{finding_of}
use Rattle.refused_section.specs.RefusedSection.{refused_section}
use Rattle.rest_years.specs.RestYears.{rest_section}
use Rattle.input_section.specs.InputSection.{input_section}
use Rattle.rates_section.specs.RatesSection.{rates_section}
use Rattle.proof_section.specs.Proved.{refused_proof}
use Rattle.record_section.specs.RecordSection.{record_section}

-- whether the opening names the years: not of a record that question 1, 2 or 4 refuses, since its k may be as wrong as the field
unfoldable pub years_known : ℕ → Bool
years_known n = not (eqb n 1) && (not (eqb n 2) && not (eqb n 4))

-- whether the inputs can be read: question 5 has said yes too, and there was room for the list
unfoldable pub inputs_known : ℕ → Bool
inputs_known n = not (eqb n 3) && (not (eqb n 5) && years_known n)

-- the opening, without years where k is not known
unfoldable pub refused_opening : Bool → ℕ → ℕ → List ℕ → ℕ → List ℕ
refused_opening html year first s n =
    cond (years_known n) (opening_text html true year first (last_year_of s) (length s)) (opening_text html false year first 0 (length s))

-- the figures of the inputs: there is no result list
unfoldable pub input_figures : List ℕ → List ℤ
input_figures s = record_figures (replicate most_entries (pos 0)) s

-- and nothing corrects the ULAE ratio
abbrev pub no_correction : Correction
no_correction = record { plain = 0; reported = 0; paid = 0; divisor = 0 }

-- the inputs as given
unfoldable pub refused_inputs : Bool → ℕ → ℕ → List ℕ → List ℕ
refused_inputs html year first s =
    input_section html first (last_year_of s) (input_figures s)
    (summary_of year (last_year_of s) (input_figures s) no_correction (figures_of s).weight (figures_of s).tail)

-- every year of which question 8 says no, where it is question 8
unfoldable pub refused_rests : Bool → List ℕ → ℕ → List ℕ
refused_rests html s n = cond (eqb n 8) (rest_section html (square_of (figures_of s)) (figures_of s).k) []

-- where question n says no, and every year of which question 8 does, where it is question 8
unfoldable pub refusal : Bool → ℕ → List ℕ → ℕ → List ℕ
refusal html first s n = refused_section html first n (finding_of s n) ++ refused_rests html s n

-- the inputs where they can be read, and the rates
unfoldable pub known_inputs : Bool → List ℕ → ℕ → ℕ → List ℕ → ℕ → List ℕ
known_inputs html rates year first s n = cond (inputs_known n) (refused_inputs html year first s ++ rates_section html first (last_year_of s) rates) []

unfoldable pub refused_page : Bool → List ℕ → List ℕ → ℕ → ℕ → List ℕ → ℕ → List ℕ
refused_page html title rates year first s n =
    page_start html title year
    ++ (refused_opening html year first s n
    ++ (refusal html first s n
    ++ (known_inputs html rates year first s n ++ (refused_proof html ++ (record_section html s ++ page_end html)))))
