-- A record as text. Assumes nothing.
use Rattle.std.specs.Prelude.{ℕ, List, [], Result, Ok, Err}
use Rattle.rules.specs.Questions.{after_call}
use Rattle.rules.specs.Record.{fields_of, most_fields}
use Rattle.rules.specs.Reading.{read_answer_of}
use Rattle.sheet.specs.Sheet.{sheet_of}

-- the text that a record is shown as: its fields, and nothing for a record that is refused
unfoldable pub shown_text : List ℕ → List ℕ
shown_text s = after_call (read_answer_of s most_fields) (sheet_of (fields_of s)) []

-- of what showing a record came to, the reader's answer, and where the text ends
abbrev pub answer_in : Result ℕ ℕ → ℕ
answer_in (Ok end) = 0
answer_in (Err answer) = answer

abbrev pub end_in : Result ℕ ℕ → ℕ
end_in (Ok end) = end
end_in (Err answer) = 0
