-- What a record has passed whose run answers 6: questions 1, 2, 4 and 5. Assumes nothing.
use Prim.Native.Nat.{ℕ}
use mathlib.Core.Path.{◌≡◌, refl}
use mathlib.Core.List.{List}
use Rattle.rules.specs.Questions.{first_no}
use Rattle.rules.specs.Reading.{opening_questions, field_questions}
use Rattle.rules.specs.Results.{most_entries}
use Rattle.rules.specs.Engine.{run_answer}
use Rattle.outcomes.proofs.Said.{first_byte_yes, length_yes, ranges_yes, shares_yes}

pub read_passed : (year : ℕ) (s : List ℕ) → run_answer year s most_entries ≡ 6 → (first_no (opening_questions s) ≡ 0) × (first_no (field_questions s) ≡ 0)
unfolding opening_questions field_questions first_no
read_passed year s h =
    (rw (first_byte_yes year s 6 refl h, length_yes year s 6 refl h), rw (ranges_yes year s 6 refl h, shares_yes year s 6 refl h))
