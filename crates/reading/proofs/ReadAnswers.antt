-- What is answered of a record that has passed questions 1 and 2. Assumes nothing.
use Prim.Native.Nat.{ℕ, ◌+◌, ◌≤◌, ◌<◌}
use native.Mathlib.Omega.{arith}
use borrow.Author.Tests.{le-leb, lt-leb}
use mathlib.Core.Path.{◌≡◌, refl, sym, ap, ◌∙◌}
use mathlib.Core.Bool.{true, false}
use mathlib.Core.List.{List}
use lib.Dec.{eqb}
use lib.ListN.{length, get_or, take}
use lib.Seq.{sets, length-sets, get_or-take}
use Rattle.rules.specs.Lists.{total, every, between}
use Rattle.rules.specs.Questions.{first_no}
use Rattle.rules.specs.Record.{million, last_year_of}
use Rattle.rules.specs.Reading.{in_ranges, shares_sum_of, field_questions}
use Rattle.entries.specs.Leading.{passing}
use Rattle.entries.proofs.Leading.{passing_all}
use Rattle.laws.proofs.Lists.{at_most}
use Rattle.laws.proofs.Joined.{take_sets}
use Rattle.laws.proofs.Questions.{yes_said}
use Rattle.packing.specs.Field.{field_at, row_at}
use Rattle.packing.proofs.Pack.{length_row}
use Rattle.layout.specs.Places.{places_of}
use Rattle.layout.specs.declared.Places.{Places}
use Rattle.reading.specs.Reading.{row_read}
use Rattle.opening.proofs.Opened.{WholeRecord}
use Rattle.reading.proofs.ListsRead.{lists, one_row}
use Rattle.reading.proofs.Ranges.{fits, Passed, Tested}

-- questions 4 and 5
module _ (s : List ℕ) where
  pub answer_4 : in_ranges s ≡ false → 4 ≡ first_no (field_questions s)
  unfolding first_no field_questions
  answer_4 e = rw e

  pub answer_5 : in_ranges s ≡ true → shares_sum_of s ≡ false → 5 ≡ first_no (field_questions s)
  unfolding first_no field_questions
  answer_5 e f = rw (e, f)

  pub answer_0 : in_ranges s ≡ true → shares_sum_of s ≡ true → 0 ≡ first_no (field_questions s)
  unfolding first_no field_questions
  answer_0 e f = rw (e, f)

  pub fields_yes : first_no (field_questions s) ≡ 0 → (in_ranges s ≡ true) × (shares_sum_of s ≡ true)
  unfolding field_questions every
  fields_yes e = (yes_said 4 (field_questions s) refl e, yes_said 5 (field_questions s) refl e)

-- a row of one field x after rows in range: x is read where it is in range, and nothing where it is not
module _ {s : List ℕ} {i most x : ℕ} (at w : ℕ) (t : Tested s i (between 0 most) (row_at s at w 1)) (p : Passed s i) (e : x ≡ field_at s at w) where
  pub one_in : x ≤ most → (fits s i ≡ true) × (x ≡ get_or (row_read s i) 0 0)
  unfolding every passing
  one_in h =
      let yes : between 0 most x ≡ true = rw (le-leb 0 x (omega arith), le-leb x most h) in
      rw (t.same, t.read p, one_row s at w, ← e, yes) (refl, refl)

  pub one_out : most < x → (fits s i ≡ false) × (0 ≡ get_or (row_read s i) 0 0)
  unfolding every passing
  one_out h =
      let no : between 0 most x ≡ false = rw (le-leb 0 x (omega arith), lt-leb x most h) in
      rw (t.same, t.read p, one_row s at w, ← e, no) (refl, refl)

-- a row that is in range, stored first in an array, and its numbers there
pub row_stored : (s : List ℕ) (at w n least most : ℕ) (l l' : List ℕ) → l' ≡ sets l 0 (passing (between least most) (row_at s at w n)) → n ≤ length l'
    → every (between least most) (row_at s at w n) ≡ true → take n l' ≡ row_at s at w n
row_stored s at w n least most l l' e h a =
    let row = row_at s at w n in
    let stored = e ∙ ap (sets l 0) (passing_all (between least most) row a) in
    ap (take n) stored ∙ take_sets l row n (length_row s at w n) (omega (arith, ap length stored, length-sets l 0 row))

pub stored_most : (least most n : ℕ) (l row : List ℕ) → take n l ≡ row → every (between least most) row ≡ true → (i : ℕ) → i < n → get_or l i 0 ≤ most
stored_most least most n l row e a i h = rw (sym (get_or-take n l i 0 h) ∙ ap (λ (xs : List ℕ). get_or xs i 0) e) (at_most least most row a i)

-- question 5 by the reporting shares' place
pub sum_at_lem : {s : List ℕ} → WholeRecord s → (k : ℕ) (p : Places) → k ≡ last_year_of s → p ≡ places_of k → shares_sum_of s ≡ eqb (total (row_at s p.reporting 20 (k + 1))) million
unfolding shares_sum_of places_of
sum_at_lem {s} h k p e q = rw (q, e, (lists s h).reporting)
