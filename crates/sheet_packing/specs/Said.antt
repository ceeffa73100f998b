-- What packing a text says, and how long its record is. Assumes nothing.
use Rattle.std.specs.Prelude.{ℕ, Bool, false, cond, ◌&&◌, List, [], eqb, Result, Ok, Err}
use Rattle.wording.specs.Wording.{refusal_text}
use Rattle.sheet.specs.Sheet.{Typed, record_size, pack_answer}
use Rattle.history_wording.specs.Refused.{wrong_text}

-- what is wrong with the text, or the writer's refusal, or nothing where there is a record
unfoldable pub said_of : Typed → List ℕ
said_of t =
    cond (eqb t.problem 0) (cond (eqb (pack_answer t) 0) [] (refusal_text (pack_answer t))) (wrong_text false t)

-- whether there is a record: the text is as due, and the writer refuses none of its figures
abbrev pub has_record : Typed → Bool
has_record t = eqb t.problem 0 && eqb (pack_answer t) 0

-- how many bytes the record has; 0 where there is none
unfoldable pub size_of : Typed → ℕ
size_of t = cond (has_record t) (record_size t.numbers) 0

-- of what packing came to, how many bytes of the record there are
abbrev pub size_in : Result ℕ ℕ → ℕ
size_in (Ok size) = size
size_in (Err said) = 0
