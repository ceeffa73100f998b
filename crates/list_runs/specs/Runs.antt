-- What a run of the engine, in a valuation year, and one of the reader on a record are as text. Assumes nothing.
use Rattle.std.specs.Prelude.{ℕ, cond, List, eqb}
use Rattle.rules.specs.Record.{most_fields, fields_of, figures_of}
use Rattle.rules.specs.Reading.{read_answer_of}
use Rattle.rules.specs.Results.{most_entries, results_of}
use Rattle.rules.specs.Engine.{run_answer}
use Rattle.list_text.specs.EntryLines.{entries_by, entries_text, refused_text}

-- the result list of the record s in a valuation year with a byte between its entries, or the number of its refusal
unfoldable pub run_text : ℕ → ℕ → List ℕ → List ℕ
run_text between year s = cond (eqb (run_answer year s most_entries) 0) (entries_by between (results_of year (figures_of s))) (refused_text (run_answer year s most_entries))

-- one entry a line, and all on one line
abbrev pub list_text : ℕ → List ℕ → List ℕ
list_text year s = run_text 10 year s

abbrev pub list_row : ℕ → List ℕ → List ℕ
list_row year s = run_text 32 year s

-- the fields of the record s one a line, or the number of its refusal
unfoldable pub fields_text : List ℕ → List ℕ
fields_text s = cond (eqb (read_answer_of s most_fields) 0) (entries_text (fields_of s)) (refused_text (read_answer_of s most_fields))
