-- The future levels, the payments, the provisions and their total as comma-separated values. Assumes nothing.
use Rattle.std.specs.Prelude.{ℕ, ◌+◌, List, ◌++◌, ℤ}
use Rattle.rules.specs.Results.{future_level_section, payment_section, provision_section, provision_total_section, section_start}
use Rattle.composing.specs.Text.{ascii}
use Rattle.csv_rows.specs.Csv.{future_cells, by_origin, by_year, alone, csv_section}
use Rattle.csv_rows.specs.Units.{hundredths, currency}

-- future levels, payments, provisions and their total
unfoldable pub completion_lines : ℕ → List ℤ → List ℕ
completion_lines k list =
    csv_section list (ascii "future level") hundredths (by_year (k + 1) k) (section_start k future_level_section)
    ++ (csv_section list (ascii "payment") currency (future_cells k) (section_start k payment_section)
    ++ (csv_section list (ascii "provision") currency (by_origin k) (section_start k provision_section)
    ++ csv_section list (ascii "total provision") currency alone (section_start k provision_total_section)))
