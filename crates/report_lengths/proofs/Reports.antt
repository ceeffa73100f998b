-- No report is ever cut: any is shorter than the buffer of its program, which then has it whole. Assumes nothing.
use mathlib.Core.Path.{◌≡◌, ap, ◌∙◌}
use mathlib.Core.Bool.{Bool}
use mathlib.Core.List.{List}
use Prim.Native.Nat.{ℕ, ◌+◌, ◌≤◌, ◌<◌}
use native.Mathlib.Decide.{ℕ_discrete}
use native.Mathlib.Omega.{arith}
use borrow.Author.Tests.{eq-eqb, ne_eqb}
use lib.ListN.{length, take, drop, length-take, length-drop}
use lib.Seq.{get_or-drop}
use Rattle.rules.specs.Packing.{Fit}
use Rattle.rules.specs.Record.{last_year_of, figures_of}
use Rattle.rules.specs.Results.{most_entries}
use Rattle.rules.specs.Engine.{run_answer}
use Rattle.laws.proofs.Joined.{take_sets}
use Rattle.composing.specs.Text.{Put}
use Rattle.outcomes.specs.Outcome.{filled_by}
use Rattle.valuation.specs.Valuation.{pair_at, year_in}
use Rattle.titled_input.specs.Titled.{first_in, title_size, title_end, rates_size, title_in, rates_in, titled_record_in}
use Rattle.rates_shown.specs.RatesShown.{shown_rates}
use Rattle.page_lengths.proofs.Accepted.{accepted_most}
use Rattle.page_lengths.proofs.Refused.{refused_page_most}
use Rattle.reports.specs.Report.{figures_by, singles_by, report_of, report_in}
use Rattle.report_lengths.specs.Page.{most_page, most_input}
use Rattle.reports.proofs.Accepted.{figured_by}
use Rattle.report_lengths.proofs.Long.{figures_long}

last_year_few : (s : List ℕ) → Fit 8 s → last_year_of s < 16
unfolding last_year_of
last_year_few s bytes = omega (arith, bytes 0)

-- of a record in a valuation year
pub report_most : (html : Bool) (title line : List ℕ) (year first : ℕ) (s : List ℕ) → length title ≤ 255 → first ≤ 65535 → length s ≤ 4096 → Fit 8 s
    → length (report_of html title line year first s) < most_page
unfolding report_of figures_of
report_most html title line year first s short l fits bytes = go (ℕ_discrete (run_answer year s most_entries) 0)
  where
    go : Dec (run_answer year s most_entries ≡ 0) → length (report_of html title line year first s) < most_page
    go (yes ok) =
        rw (eq-eqb (run_answer year s most_entries) 0 ok)
        (omega
        (arith, accepted_most html title (shown_rates s line) year first (last_year_of s) s (figures_by year s) (singles_by year s) short l (last_year_few s bytes) fits (figured_by year s bytes ok) (figures_long (filled_by year s) s)))
    go (no ne) =
        rw (ne_eqb (run_answer year s most_entries) 0 ne)
        (omega (arith, refused_page_most html title (shown_rates s line) year first s (run_answer year s most_entries) short fits (last_year_few s bytes)))

-- of an input as the programs read it
pub input_most : (html : Bool) (input : List ℕ) → Fit 8 input → length input ≤ most_input → length (report_in html input) < most_page
unfolding report_in title_in first_in titled_record_in pair_at
input_most html input bytes fits =
    let at = title_end input + 1 + rates_size input in
    report_most html (title_in input) (rates_in input) (year_in input) (first_in input) (titled_record_in input)
    (omega (arith, length-take (title_size input) (drop 5 input), bytes 4))
    (omega (arith, bytes 2, bytes (2 + 1)))
    (omega (arith, length-drop at input))
    (λ i. rw (get_or-drop at input i) (bytes (at + i)))

-- so what was put into the buffer is the report and nothing less
pub report_whole : (html : Bool) (input before after : List ℕ) (end : ℕ) → Fit 8 input → length input ≤ most_input → length before ≡ most_page → Put before after 0 end (report_in html input)
    → take end after ≡ report_in html input
report_whole html input before after end bytes fits room put =
    let most = input_most html input bytes fits in
    ap (take end) put.stored ∙ take_sets before (report_in html input) end (omega (arith, put.ended)) (omega (arith, put.ended))
