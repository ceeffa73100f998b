-- What the figures say is so: the length, the first bits and the sum of the reporting shares are those that the questions refuse. Assumes nothing.
use Prim.Native.Nat.{ℕ, ◌≤◌}
use native.Mathlib.Omega.{arith}
use borrow.Author.Tests.{le-leb, eq-eqb, leb-false, eqb-false}
use mathlib.Core.Path.{◌≡◌, refl}
use mathlib.Core.Bool.{true}
use mathlib.Core.List.{List}
use lib.ListN.{length}
use Rattle.rules.specs.Lists.{total}
use Rattle.rules.specs.Questions.{first_no}
use Rattle.rules.specs.Record.{million, byte_count, last_year_of, filling_of, fields_of, reporting_in}
use Rattle.rules.specs.Reading.{has_last_year, has_length, shares_sum_of, opening_questions}
use Rattle.rules.specs.Results.{most_entries}
use Rattle.rules.specs.Engine.{run_answer}
use Rattle.laws.proofs.Questions.{precedes}
use Rattle.reasons.proofs.Counted.{no_both}
use Rattle.opening.proofs.Opened.{years_known_lem}
use Rattle.outcomes.proofs.Said.{order, first_byte_no, first_byte_yes, length_no, length_yes, shares_no}

-- where questions 1 and 2 say yes
both_yes : (s : List ℕ) → has_last_year s ≡ true → has_length s ≡ true → first_no (opening_questions s) ≡ 0
unfolding first_no opening_questions
both_yes s e f = rw (e, f)

module _ (year : ℕ) (s : List ℕ) where
  -- question 1: no byte, or k is 0
  pub given_no : run_answer year s most_entries ≡ 1 → 1 ≤ length s → last_year_of s ≡ 0
  unfolding has_last_year
  given_no run l =
      let no = leb-false 1 (last_year_of s) (rw (le-leb 1 (length s) l) at (first_byte_no year s run)) in
      omega arith

  -- question 2: there is a first byte, and another length than k calls for or a filling bit that is not zero
  pub some_bytes : run_answer year s most_entries ≡ 2 → 1 ≤ length s
  some_bytes run = (years_known_lem s (first_byte_yes year s 2 refl run)).0

  pub length_other : run_answer year s most_entries ≡ 2 → length s ≡ byte_count (last_year_of s) → filling_of s ≡ 0 → ⊥
  unfolding has_length
  length_other run e f = no_both (has_length s) (rw (eq-eqb (length s) (byte_count (last_year_of s)) e, eq-eqb (filling_of s) 0 f)) (length_no year s run)

  -- question 5: the reporting shares do not add up to M
  pub shares_other : run_answer year s most_entries ≡ 5 → total (reporting_in (last_year_of s) (fields_of s)) ≡ million → ⊥
  unfolding shares_sum_of
  shares_other run = eqb-false (total (reporting_in (last_year_of s) (fields_of s))) million (shares_no year s run)

  -- questions 1 and 2 say yes where the answer is 4 or 5
  pub opened : (n : ℕ) → precedes 1 n order ≡ true → precedes 2 n order ≡ true → run_answer year s most_entries ≡ n → first_no (opening_questions s) ≡ 0
  opened n a b run = both_yes s (first_byte_yes year s n a run) (length_yes year s n b run)
