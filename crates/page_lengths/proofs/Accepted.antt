-- How long the page of an accepted record is at most: the sum of its sections. Assumes nothing.
use mathlib.Core.Path.{◌≡◌}
use mathlib.Core.Bool.{Bool, true}
use mathlib.Core.List.{List}
use Prim.Native.Nat.{ℕ, ◌≤◌, ◌<◌}
use native.Mathlib.Omega.{arith}
use lib.IntN.{ℤ, nat_abs}
use lib.ListN.{length, length-append}
use Rattle.rules.specs.Growth.{corrects}
use Rattle.vectors.specs.Vectors.{most_figures}
use Rattle.page_figures.specs.Given.{Figured}
use Rattle.summary_figures.specs.Summary.{averages_at, gaps_at, lost_at}
use Rattle.section_lengths.proofs.Keys.{key_most}
use Rattle.section_lengths.proofs.Provisions.{provisions_most}
use Rattle.section_lengths.proofs.Shares.{shares_most}
use Rattle.section_lengths.proofs.Fit.{fit_most}
use Rattle.section_lengths.proofs.Triangles.{payments_most, ladder_most}
use Rattle.section_lengths.proofs.Expense.{expense_most}
use Rattle.section_lengths.proofs.Inputs.{input_section_most}
use Rattle.section_lengths.proofs.Rates.{rates_section_most}
use Rattle.section_lengths.proofs.Proved.{proof_most}
use Rattle.frame_lengths.proofs.Frame.{start_most, end_most}
use Rattle.frame_lengths.proofs.Opening.{opening_most}
use Rattle.frame_lengths.proofs.Recorded.{record-most}
use Rattle.accepted_page.specs.AcceptedPage.{single, fit_of, method_sections, other_sections, accepted_page}

module _ (html : Bool) (first k : ℕ) (xs singles : List ℤ) (few : k < 16) where
  methods_most : first ≤ 65535 → Figured k xs → length xs ≡ most_figures → length (method_sections html first k xs singles) ≤ 133000
  unfolding method_sections fit_of
  methods_most l figured long =
      simp length-append
      (omega
      (arith, key_most html first k xs singles few l figured, provisions_most html first k xs few, shares_most html first k xs few l figured long, fit_most html first k xs (single singles averages_at) (single singles gaps_at) (nat_abs (single singles lost_at)) few))

  others_most : (rates : List ℕ) (year : ℕ) → length (other_sections html rates year first k xs singles) ≤ 121300
  unfolding other_sections
  others_most rates year =
      simp length-append
      (omega
      (arith, payments_most html first k xs few, expense_most html (corrects year) singles, ladder_most html first k xs few, input_section_most html first k xs singles few, rates_section_most html first k rates, proof_most html k singles))

-- in any valuation year, with a title of at most 255 bytes and any line, and of a record of at most 4096
pub accepted_most : (html : Bool) (title rates : List ℕ) (year first k : ℕ) (packed : List ℕ) (xs singles : List ℤ) → length title ≤ 255 → first ≤ 65535 → k < 16 → length packed ≤ 4096
    → Figured k xs → length xs ≡ most_figures → length (accepted_page html title rates year first k packed xs singles) ≤ 276000
unfolding accepted_page
accepted_most html title rates year first k packed xs singles short l few fits figured long =
    simp length-append
    (omega
    (arith, start_most html title year, opening_most html true year first k (length packed), methods_most html first k xs singles few l figured long, others_most html first k xs singles few rates year, record-most html packed, end_most html))
