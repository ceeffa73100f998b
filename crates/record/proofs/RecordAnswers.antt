-- What the answer 0 of a reader and of a writer says, question by question. Assumes nothing.
use Prim.Native.Nat.{ℕ, suc, ◌+◌, ◌≤◌}
use native.Mathlib.Omega.{arith}
use mathlib.Core.Path.{◌≡◌, refl}
use mathlib.Core.Bool.{Bool, true, false}
use mathlib.Core.List.{List, ◌∷◌}
use lib.Dec.{eqb, leb}
use lib.ListN.{length}
use borrow.Author.Tests.{leb-true, eqb-true, le-leb, eq-eqb}
use Rattle.rules.specs.Lists.{total}
use Rattle.rules.specs.Questions.{first_no}
use Rattle.rules.specs.Record.{Figures, million, layout, kinds_of, field_count, byte_count, cells, every_field, in_range, bits_in_range, last_year_of, codes_of, filling_of, fields_of, reporting_in}
use Rattle.rules.specs.Reading.{has_last_year, has_length, has_room, in_ranges, shares_sum_of, opening_questions, field_questions, read_answer_of}
use Rattle.rules.specs.Writing.{given_fields, given_last_year, given_lengths, given_ranges, given_sum, write_answer}
use Rattle.laws.proofs.Lists.{both_left, both_right}
use Rattle.layout.proofs.RecordSizes.{bytes_least}

-- the first answer is yes, and so are the others
first_yes : (n : ℕ) (b : Bool) (qs : List (ℕ × Bool)) → first_no ((suc n, b) ∷ qs) ≡ 0 → (b ≡ true) × (first_no qs ≡ 0)
unfolding first_no
first_yes n true qs h = (refl, h)
first_yes n false qs h = absurd (omega arith)

-- what the reader's yes to every question says of the record s and a list of m entries
pub record Accepted (s : List ℕ) (m : ℕ) : Type 0 where
  pub years : 1 ≤ last_year_of s
  pub size : length s ≡ byte_count (last_year_of s)
  pub filled : filling_of s ≡ 0
  pub room : field_count (last_year_of s) ≤ m
  pub ranges : every_field bits_in_range (kinds_of (layout (last_year_of s))) (codes_of s) ≡ true
  pub sum : total (reporting_in (last_year_of s) (fields_of s)) ≡ million

-- the answer 0 says that, and whatever is so is answered by 0
pub reader_yes : (s : List ℕ) (m : ℕ) → read_answer_of s m ≡ 0 → Accepted s m
unfolding read_answer_of opening_questions field_questions has_last_year has_length has_room in_ranges shares_sum_of
reader_yes s m h =
    let q1 = first_yes 0 (has_last_year s) _ h in
    let q2 = first_yes 1 (has_length s) _ q1.1 in
    let q3 = first_yes 2 (has_room s m) _ q2.1 in
    let q4 = first_yes 3 (in_ranges s) _ q3.1 in
    let q5 = first_yes 4 (shares_sum_of s) _ q4.1 in
    record {
      years = leb-true 1 (last_year_of s) (both_right (leb 1 (length s)) _ q1.0);
      size = eqb-true (length s) (byte_count (last_year_of s)) (both_left _ (eqb (filling_of s) 0) q2.0);
      filled = eqb-true (filling_of s) 0 (both_right (eqb (length s) (byte_count (last_year_of s))) _ q2.0);
      room = leb-true (field_count (last_year_of s)) m q3.0;
      ranges = q4.0;
      sum = eqb-true (total (reporting_in (last_year_of s) (fields_of s))) million q5.0;
    }

pub yes_reader : (s : List ℕ) (m : ℕ) → Accepted s m → read_answer_of s m ≡ 0
unfolding read_answer_of opening_questions field_questions has_last_year has_length has_room in_ranges shares_sum_of first_no
yes_reader s m a =
    let k = last_year_of s in
    rw (
      le-leb 1 (length s) (omega (arith, bytes_least k a.years)),
      le-leb 1 k a.years,
      eq-eqb (length s) (byte_count k) a.size,
      eq-eqb (filling_of s) 0 a.filled,
      le-leb (field_count k) m a.room,
      a.ranges,
      eq-eqb (total (reporting_in k (fields_of s))) million a.sum,
    )

-- what the writer's yes to every question says of what it is given and a buffer of m bytes
pub record Taken (g : Figures) (m : ℕ) : Type 0 where
  pub years : 1 ≤ g.k
  pub most : g.k ≤ 15
  pub size : m ≡ byte_count g.k
  pub exposures : length g.exposures ≡ g.k + 1
  pub increments : length g.increments ≡ cells g.k
  pub indices : length g.indices ≡ g.k + 1
  pub reporting : length g.reporting ≡ g.k + 1
  pub ulae : length g.ulae ≡ g.k + 1
  pub ranges : every_field in_range (kinds_of (layout g.k)) (given_fields g) ≡ true
  pub sum : total g.reporting ≡ million

-- the answer 0 says that, and whatever is so is answered by 0
pub writer_yes : (g : Figures) (m : ℕ) → write_answer g m ≡ 0 → Taken g m
unfolding write_answer given_last_year given_lengths layout given_ranges given_sum
writer_yes g m h =
    let q1 = first_yes 0 (given_last_year g) _ h in
    let q2 = first_yes 1 (given_lengths g m) _ q1.1 in
    let q4 = first_yes 3 (given_ranges g) _ q2.1 in
    let q5 = first_yes 4 (given_sum g) _ q4.1 in
    let l1 = both_right (eqb m (byte_count g.k)) _ q2.0 in
    let l2 = both_right (eqb (length g.exposures) (g.k + 1)) _ l1 in
    let l3 = both_right (eqb (length g.increments) (cells g.k)) _ l2 in
    let l4 = both_right (eqb (length g.indices) (g.k + 1)) _ l3 in
    record {
      years = leb-true 1 g.k (both_left _ _ q1.0);
      most = leb-true g.k 15 (both_right (leb 1 g.k) _ q1.0);
      size = eqb-true m (byte_count g.k) (both_left _ _ q2.0);
      exposures = eqb-true (length g.exposures) (g.k + 1) (both_left _ _ l1);
      increments = eqb-true (length g.increments) (cells g.k) (both_left _ _ l2);
      indices = eqb-true (length g.indices) (g.k + 1) (both_left _ _ l3);
      reporting = eqb-true (length g.reporting) (g.k + 1) (both_left _ _ l4);
      ulae = eqb-true (length g.ulae) (g.k + 1) (both_right (eqb (length g.reporting) (g.k + 1)) _ l4);
      ranges = q4.0;
      sum = eqb-true (total g.reporting) million q5.0;
    }

pub yes_writer : (g : Figures) (m : ℕ) → Taken g m → write_answer g m ≡ 0
unfolding write_answer given_last_year given_lengths layout given_ranges given_sum first_no
yes_writer g m t =
    rw (
      le-leb 1 g.k t.years,
      le-leb g.k 15 t.most,
      eq-eqb m (byte_count g.k) t.size,
      eq-eqb (length g.exposures) (g.k + 1) t.exposures,
      eq-eqb (length g.increments) (cells g.k) t.increments,
      eq-eqb (length g.indices) (g.k + 1) t.indices,
      eq-eqb (length g.reporting) (g.k + 1) t.reporting,
      eq-eqb (length g.ulae) (g.k + 1) t.ulae,
      t.ranges,
      eq-eqb (total g.reporting) million t.sum,
    )
