-- The report of an accepted record, section by section: of its figures xs and its single figures, in a valuation year, with a title, the line of inflation whose rates made
-- the indices, where there is one, and a first origin year. Assumes nothing.
use Rattle.std.specs.Prelude.{ℕ, Bool, true, List, ◌++◌, ℤ, pos, nat_abs, length, get_or}
use Rattle.rules.specs.Growth.{corrects}
use Rattle.page_frame.specs.Frame.{page_start, page_end}
use Rattle.page_opening.specs.Opening.{opening_text}
use Rattle.key_section.specs.KeySection.{key_section}
use Rattle.provision_section.specs.Provisions.{provisions_section}
use Rattle.share_section.specs.ShareSection.{shares_section}
use Rattle.fit_section.specs.FitSection.{fit_section}
use Rattle.payment_section.specs.Payments.{payments_section}
use Rattle.expense_section.specs.Expense.{expense_section}
use Rattle.ladder_section.specs.Ladder.{ladder_section}
use Rattle.input_section.specs.InputSection.{input_section}
use Rattle.rates_section.specs.RatesSection.{rates_section}
use Rattle.proof_section.specs.Proved.{proof_section}
use Rattle.record_section.specs.RecordSection.{record_section}
use Rattle.summary_figures.specs.Summary.{averages_at, gaps_at, lost_at}

-- the single figure at place p
abbrev pub single : List ℤ → ℕ → ℤ
single singles p = get_or singles p (pos 0)

-- what the fit section needs of the single figures
unfoldable pub fit_of : Bool → ℕ → ℕ → List ℤ → List ℤ → List ℕ
fit_of html first k xs singles = fit_section html first k xs (single singles averages_at) (single singles gaps_at) (nat_abs (single singles lost_at))

-- the sections up to the fit, and the others
unfoldable pub method_sections : Bool → ℕ → ℕ → List ℤ → List ℤ → List ℕ
method_sections html first k xs singles =
    key_section html first k xs singles ++ (provisions_section html first k xs ++ (shares_section html first k xs ++ fit_of html first k xs singles))

unfoldable pub other_sections : Bool → List ℕ → ℕ → ℕ → ℕ → List ℤ → List ℤ → List ℕ
other_sections html rates year first k xs singles =
    payments_section html first k xs
    ++ (expense_section html (corrects year) singles
    ++ (ladder_section html first k xs ++ (input_section html first k xs singles ++ (rates_section html first k rates ++ proof_section html k singles))))

-- the page of a record that has passed all questions
unfoldable pub accepted_page : Bool → List ℕ → List ℕ → ℕ → ℕ → ℕ → List ℕ → List ℤ → List ℤ → List ℕ
accepted_page html title rates year first k packed xs singles =
    page_start html title year
    ++ (opening_text html true year first k (length packed)
    ++ (method_sections html first k xs singles ++ (other_sections html rates year first k xs singles ++ (record_section html packed ++ page_end html))))
