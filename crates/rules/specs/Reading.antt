-- A reader that only gives the fields back (document 01, "The record"): questions 1, 2, 4 and 5, with 3 before 4 for its lent list. Assumes nothing.
use Rattle.std.specs.Prelude.{ℕ, Bool, ◌&&◌, List, [], ◌∷◌, ◌++◌, eqb, leb, ℤ, length}
use Rattle.std.proofs.lemmas.List.Edits.{sets}
use Rattle.rules.specs.Lists.{total}
use Rattle.rules.specs.Questions.{first_no, after_call}
use Rattle.rules.specs.Record.{million, kinds_of, layout, field_count, byte_count, every_field, bits_in_range, last_year_of, codes_of, filling_of, fields_of, reporting_in}

-- 1. Is there a first byte, and is k at least 1?
unfoldable pub has_last_year : List ℕ → Bool
has_last_year s = leb 1 (length s) && leb 1 (last_year_of s)

-- 2. Is the length just what k calls for, and every filling bit zero?
unfoldable pub has_length : List ℕ → Bool
has_length s = eqb (length s) (byte_count (last_year_of s)) && eqb (filling_of s) 0

-- 3. Does the list, of m entries, hold the fields?
unfoldable pub has_room : List ℕ → ℕ → Bool
has_room s m = leb (field_count (last_year_of s)) m

-- 4. Is every field in its range?
unfoldable pub in_ranges : List ℕ → Bool
in_ranges s = every_field bits_in_range (kinds_of (layout (last_year_of s))) (codes_of s)

-- 5. Do the reporting shares sum to M?
unfoldable pub shares_sum_of : List ℕ → Bool
shares_sum_of s = eqb (total (reporting_in (last_year_of s) (fields_of s))) million

-- questions 1 and 2, and questions 4 and 5
unfoldable pub opening_questions : List ℕ → List (ℕ × Bool)
opening_questions s = (1, has_last_year s) ∷ (2, has_length s) ∷ []

unfoldable pub field_questions : List ℕ → List (ℕ × Bool)
field_questions s = (4, in_ranges s) ∷ (5, shares_sum_of s) ∷ []

-- the number that reading the record s into a list of m entries answers
unfoldable pub read_answer_of : List ℕ → ℕ → ℕ
read_answer_of s m = first_no (opening_questions s ++ ((3, has_room s m) ∷ field_questions s))

-- the lent list afterwards: the fields and then what it held, and unchanged on a refusal
unfoldable pub read_into : List ℕ → List ℤ → List ℤ
read_into s out = after_call (read_answer_of s (length out)) (sets out 0 (fields_of s)) out
