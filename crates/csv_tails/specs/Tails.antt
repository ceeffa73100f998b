-- The tail payments as comma-separated values. Assumes nothing.
use Rattle.std.specs.Prelude.{ℕ, List, ℤ}
use Rattle.rules.specs.Results.{tail_section, section_start}
use Rattle.composing.specs.Text.{ascii}
use Rattle.csv_rows.specs.Csv.{by_origin, csv_section}
use Rattle.csv_rows.specs.Units.{currency}

-- the tail payments
unfoldable pub tail_lines : ℕ → List ℤ → List ℕ
tail_lines k list = csv_section list (ascii "tail payment") currency (by_origin k) (section_start k tail_section)
