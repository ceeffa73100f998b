-- The result list as comma-separated values: section, origin year, development or payment year, value, unit; and after it, beside the list, the valuation year,
-- the plain ULAE ratio and what corrects it. Assumes nothing.
use Rattle.std.specs.Prelude.{ℕ, cond, List, [], ◌++◌, ℤ}
use Rattle.rules.specs.Growth.{corrects}
use Rattle.rules.specs.Results.{ratio_section, factor_section, completed_section, section_start}
use Rattle.composing.specs.Text.{ascii}
use Rattle.csv_rows.specs.Csv.{future_cells, by_year, alone, csv_section, csv_beside}
use Rattle.csv_rows.specs.Units.{millionths, currency}
use Rattle.growth.specs.declared.Correction.{Correction}
use Rattle.csv_separation.specs.Separation.{separation_lines}
use Rattle.csv_completion.specs.Completion.{completion_lines}
use Rattle.csv_expense.specs.Expense.{expense_lines}
use Rattle.csv_tails.specs.Tails.{tail_lines}
use Rattle.csv_correction.specs.Correction.{correction_lines}

-- the chain ladder's development factors and completed cumulatives
unfoldable pub ladder_lines : ℕ → List ℤ → List ℕ
ladder_lines k list =
    csv_section list (ascii "development factor") millionths (by_year 0 k) (section_start k factor_section)
    ++ csv_section list (ascii "completed cumulative") currency (future_cells k) (section_start k completed_section)

-- every entry of the result list of the years 0 to k, under a heading
unfoldable pub list_lines : ℕ → List ℤ → List ℕ
list_lines k list =
    ascii "section,origin year,development or payment year,value,unit\n"
    ++ (separation_lines k list ++ (completion_lines k list ++ (expense_lines k list ++ (ladder_lines k list ++ tail_lines k list))))

-- the corrected ratio, the one that is used
unfoldable pub corrected_line : ℕ → List ℤ → List ℕ
corrected_line k list = csv_section list (ascii "corrected ulae ratio") millionths alone (section_start k ratio_section)

-- the valuation year and the plain ratio, and where the year's is corrected what corrects it and the corrected one
unfoldable pub valuation_lines : ℕ → ℕ → List ℤ → Correction → List ℕ
valuation_lines year k list x =
    csv_beside (ascii "valuation year") (ascii "year") year
    ++ (csv_beside (ascii "plain ulae ratio") millionths x.plain ++ cond (corrects year) (correction_lines x ++ corrected_line k list) [])

-- the whole
unfoldable pub csv_of : ℕ → ℕ → List ℤ → Correction → List ℕ
csv_of year k list x = list_lines k list ++ valuation_lines year k list x
