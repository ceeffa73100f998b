-- A writer (document 01, "The record"): it makes the record from its fields, under questions 1, 2, 4 and 5 as they read for it. Assumes nothing.
use Rattle.std.specs.Prelude.{ℕ, Bool, ◌&&◌, List, [], ◌∷◌, ◌++◌, map, eqb, leb, ℤ, pos, nat_abs, length, get_or}
use Rattle.rules.specs.Lists.{total}
use Rattle.rules.specs.Questions.{first_no, after_call}
use Rattle.rules.specs.Record.{Figures, figures, million, kinds_of, layout, byte_count, every_field, in_range, record_of, count_of, exposures_in, increments_in, indices_in, reporting_in, weight_in, ulae_in, tail_in}

-- what a writer is given, found among the fields vs of a record of the years 0 to k, and of one whose k is the first of them
unfoldable pub given_at : ℕ → List ℤ → Figures
given_at k vs = figures k (exposures_in k vs) (increments_in k vs) (indices_in k vs) (reporting_in k vs) (weight_in k vs) (ulae_in k vs) (tail_in k vs)

abbrev pub given_in : List ℤ → Figures
given_in vs = given_at (nat_abs (get_or vs 0 (pos 0))) vs

-- the fields in the record's order
unfoldable pub given_fields : Figures → List ℤ
given_fields g =
    pos g.k
    ∷ (map pos g.exposures ++ (g.increments ++ (map pos g.indices ++ (map pos g.reporting ++ (pos g.weight ∷ (map pos g.ulae ++ (pos g.tail ∷ [])))))))

-- 1. Is k from 1 to 15?
unfoldable pub given_last_year : Figures → Bool
given_last_year g = leb 1 g.k && leb g.k 15

-- 2. Has the buffer, of m bytes, just the length that k calls for, and has each list?
unfoldable pub given_lengths : Figures → ℕ → Bool
given_lengths g m =
    eqb m (byte_count g.k)
    && (eqb (length g.exposures) (count_of g.k 1)
    && (eqb (length g.increments) (count_of g.k 2)
    && (eqb (length g.indices) (count_of g.k 3) && (eqb (length g.reporting) (count_of g.k 4) && eqb (length g.ulae) (count_of g.k 6)))))

-- 4. Is every field in its range?
unfoldable pub given_ranges : Figures → Bool
given_ranges g = every_field in_range (kinds_of (layout g.k)) (given_fields g)

-- 5. Do the reporting shares sum to M?
unfoldable pub given_sum : Figures → Bool
given_sum g = eqb (total g.reporting) million

-- the number that writing into a buffer of m bytes answers
unfoldable pub write_answer : Figures → ℕ → ℕ
write_answer g m = first_no ((1, given_last_year g) ∷ (2, given_lengths g m) ∷ (4, given_ranges g) ∷ (5, given_sum g) ∷ [])

-- the lent buffer afterwards: the record, and unchanged on a refusal
unfoldable pub write_into : Figures → List ℕ → List ℕ
write_into g buffer = after_call (write_answer g (length buffer)) (record_of g.k (given_fields g)) buffer
