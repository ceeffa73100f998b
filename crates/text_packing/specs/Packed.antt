-- What packing a text says, and how long its record is: its line of inflation is asked first. Assumes nothing.
use Rattle.std.specs.Prelude.{ℕ, Bool, cond, ◌&&◌, List, eqb}
use Rattle.sheet.specs.Sheet.{lines, unmarked, read_sheet, fault_of}
use Rattle.inflation_wording.specs.FaultWords.{fault_line}
use Rattle.sheet_packing.specs.Said.{said_of, has_record, size_of}

unfoldable pub packed_said : List ℕ → List ℕ
packed_said text = cond (eqb (fault_of text).kind 0) (said_of (read_sheet text)) (fault_line (lines (unmarked text)) (fault_of text))

-- whether there is a record
abbrev pub is_packed : List ℕ → Bool
is_packed text = eqb (fault_of text).kind 0 && has_record (read_sheet text)

unfoldable pub packed_size : List ℕ → ℕ
packed_size text = cond (eqb (fault_of text).kind 0) (size_of (read_sheet text)) 0
