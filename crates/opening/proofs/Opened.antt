-- What questions 1 and 2 tell where they say yes, and a record that has passed them. Assumes nothing.
use Prim.Native.Nat.{ℕ, ◌≤◌, ◌<◌}
use borrow.Author.Tests.{eqb-true, leb-true}
use mathlib.Core.Path.{◌≡◌, refl}
use mathlib.Core.Bool.{true}
use mathlib.Core.List.{List}
use lib.Dec.{eqb, leb}
use lib.ListN.{length}
use Rattle.rules.specs.Record.{byte_count, last_year_of, filling_of}
use Rattle.rules.specs.Lists.{every}
use Rattle.rules.specs.Questions.{first_no}
use Rattle.rules.specs.Reading.{has_last_year, has_length, opening_questions}
use Rattle.rules.specs.Packing.{Fit}
use Rattle.laws.proofs.Lists.{both_left, both_right}
use Rattle.laws.proofs.Questions.{yes_said}
use Rattle.layout.proofs.RecordSizes.{years_lt}

-- bytes that have passed questions 1 and 2
pub record WholeRecord (s : List ℕ) : Type 0 where
  pub small : Fit 8 s
  pub some : 1 ≤ last_year_of s
  pub few : last_year_of s < 16
  pub long : length s ≡ byte_count (last_year_of s)

-- what a yes to question 1 tells
pub years_known_lem : (s : List ℕ) → has_last_year s ≡ true → (1 ≤ length s) × (1 ≤ last_year_of s)
unfolding has_last_year
years_known_lem s h =
    let a = leb 1 (length s) in
    let b = leb 1 (last_year_of s) in
    (leb-true 1 (length s) (both_left a b h), leb-true 1 (last_year_of s) (both_right a b h))

-- what an answer of 0 tells: each of the two says yes
pub opening_yes : (s : List ℕ) → first_no (opening_questions s) ≡ 0 → (has_last_year s ≡ true) × (has_length s ≡ true)
unfolding opening_questions every
opening_yes s e = (yes_said 1 (opening_questions s) refl e, yes_said 2 (opening_questions s) refl e)

pub whole_record : (s : List ℕ) → Fit 8 s → first_no (opening_questions s) ≡ 0 → WholeRecord s
unfolding has_length
whole_record s h e =
    let both = opening_yes s e in
    record {
      small = h;
      some = (years_known_lem s both.0).1;
      few = years_lt s h;
      long = eqb-true (length s) (byte_count (last_year_of s)) (both_left (eqb (length s) (byte_count (last_year_of s))) (eqb (filling_of s) 0) both.1);
    }
