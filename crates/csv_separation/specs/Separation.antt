-- The averages, the shares and the levels as comma-separated values. Assumes nothing.
use Rattle.std.specs.Prelude.{ℕ, ◌+◌, List, ◌++◌, ℤ}
use Rattle.rules.specs.Results.{average_section, share_section, level_section, section_start}
use Rattle.composing.specs.Text.{ascii}
use Rattle.csv_rows.specs.Csv.{given_cells, by_year, csv_section}
use Rattle.csv_rows.specs.Units.{hundredths, billionths}

-- the sections in the list's order: averages, shares, levels
unfoldable pub separation_lines : ℕ → List ℤ → List ℕ
separation_lines k list =
    csv_section list (ascii "average") hundredths (given_cells k) (section_start k average_section)
    ++ (csv_section list (ascii "share") billionths (by_year 0 (k + 1)) (section_start k share_section)
    ++ csv_section list (ascii "level") hundredths (by_year 0 (k + 1)) (section_start k level_section))
