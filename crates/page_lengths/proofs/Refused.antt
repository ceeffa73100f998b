-- How long the page of a refused record is at most. Assumes nothing.
use mathlib.Core.Bool.{Bool, true, false, cond}
use mathlib.Core.List.{List, [], ◌++◌}
use Prim.Native.Nat.{ℕ, ◌≤◌, ◌<◌}
use native.Mathlib.Omega.{arith}
use lib.ListN.{length, length-append}
use lib.Dec.{eqb}
use Rattle.rules.specs.Record.{last_year_of, figures_of}
use Rattle.rules.specs.Results.{square_of}
use Rattle.section_lengths.proofs.Inputs.{input_section_most}
use Rattle.section_lengths.proofs.Rates.{rates_section_most}
use Rattle.section_lengths.proofs.Proved.{refused_proof_most}
use Rattle.section_lengths.proofs.Rests.{rest_section_most}
use Rattle.frame_lengths.proofs.Frame.{start_most, end_most}
use Rattle.frame_lengths.proofs.Opening.{opening_most}
use Rattle.frame_lengths.proofs.Recorded.{record-most}
use Rattle.frame_lengths.proofs.Refused.{refused_most}
use Rattle.page_opening.specs.Opening.{opening_text}
use Rattle.findings.specs.Findings.{finding_of}
use Rattle.rest_years.specs.RestYears.{rest_section}
use Rattle.rates_section.specs.RatesSection.{rates_section}
use Rattle.refused_page.specs.RefusedPage.{years_known, inputs_known, refused_opening, refused_inputs, refused_rests, refusal, known_inputs, refused_page}

refused_opening_most : (html : Bool) (year first : ℕ) (s : List ℕ) (n : ℕ) → length (refused_opening html year first s n) ≤ 480
unfolding refused_opening
refused_opening_most html year first s n = go (years_known n)
  where
    go : (known : Bool)
        → length (cond known (opening_text html true year first (last_year_of s) (length s)) (opening_text html false year first 0 (length s))) ≤ 480
    go true = opening_most html true year first (last_year_of s) (length s)
    go false = opening_most html false year first 0 (length s)

inputs_most : (html : Bool) (rates : List ℕ) (year first : ℕ) (s : List ℕ) (n : ℕ) → last_year_of s < 16 → length (known_inputs html rates year first s n) ≤ 47200
unfolding known_inputs refused_inputs
inputs_most html rates year first s n few = go (inputs_known n)
  where
    given : length (refused_inputs html year first s) ≤ 46000
    given = input_section_most html first (last_year_of s) _ _ few

    go : (known : Bool) → length (cond known (refused_inputs html year first s ++ rates_section html first (last_year_of s) rates) []) ≤ 47200
    go true = simp length-append (omega (arith, given, rates_section_most html first (last_year_of s) rates))
    go false = omega arith

rests_most : (html : Bool) (s : List ℕ) (n : ℕ) → last_year_of s < 16 → length (refused_rests html s n) ≤ 9000
unfolding refused_rests figures_of
rests_most html s n few = go (eqb n 8)
  where
    go : (eight : Bool) → length (cond eight (rest_section html (square_of (figures_of s)) (figures_of s).k) []) ≤ 9000
    go true = rest_section_most html (square_of (figures_of s)) (figures_of s).k few
    go false = omega arith

-- in any valuation year and for any question, with a title of at most 255 bytes and any line, and of a record of at most 4096
pub refused_page_most : (html : Bool) (title rates : List ℕ) (year first : ℕ) (s : List ℕ) (n : ℕ) → length title ≤ 255 → length s ≤ 4096 → last_year_of s < 16
    → length (refused_page html title rates year first s n) ≤ 86000
unfolding refused_page refusal
refused_page_most html title rates year first s n short fits few =
    simp length-append
    (omega
    (arith, start_most html title year, refused_opening_most html year first s n, refused_most html first n (finding_of s n), rests_most html s n few, inputs_most html rates year first s n few, refused_proof_most html, record-most html s, end_most html))
