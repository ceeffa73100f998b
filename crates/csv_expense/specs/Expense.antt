-- What is not reported, the ULAE reserves, their total and the ratio as comma-separated values. Assumes nothing.
use Rattle.std.specs.Prelude.{ℕ, List, ◌++◌, ℤ}
use Rattle.rules.specs.Results.{not_reported_section, reserve_section, reserve_total_section, ratio_section, section_start}
use Rattle.composing.specs.Text.{ascii}
use Rattle.csv_rows.specs.Csv.{by_origin, alone, csv_section}
use Rattle.csv_rows.specs.Units.{millionths, currency}

-- what is not reported, ULAE reserves, their total and the ratio that is used
unfoldable pub expense_lines : ℕ → List ℤ → List ℕ
expense_lines k list =
    csv_section list (ascii "not reported") currency (by_origin k) (section_start k not_reported_section)
    ++ (csv_section list (ascii "ulae reserve") currency (by_origin k) (section_start k reserve_section)
    ++ (csv_section list (ascii "total ulae reserve") currency alone (section_start k reserve_total_section)
    ++ csv_section list (ascii "ulae ratio") millionths alone (section_start k ratio_section)))
