-- What corrects the ULAE ratio as comma-separated values. Assumes nothing.
use Rattle.std.specs.Prelude.{ℕ, List, ◌++◌}
use Rattle.composing.specs.Text.{ascii}
use Rattle.csv_rows.specs.Csv.{csv_beside}
use Rattle.csv_rows.specs.Units.{millionths, currency}
use Rattle.growth.specs.declared.Correction.{Correction}

-- what is reported and what is paid in the latest year, B and Y, and the divisor
unfoldable pub correction_lines : Correction → List ℕ
correction_lines x =
    csv_beside (ascii "reported in the latest year") currency x.reported
    ++ (csv_beside (ascii "paid in the latest year") currency x.paid ++ csv_beside (ascii "divisor of the ulae ratio") millionths x.divisor)
