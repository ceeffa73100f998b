-- A record that has passed questions 1, 2, 4 and 5: what is read of it into arrays of zeros is its figures, and these are sound. Assumes nothing.
use Prim.Native.Nat.{ℕ, ◌+◌, ◌-◌, ◌≤◌, ◌<◌, zero-le}
use native.Mathlib.Omega.{arith}
use native.Mathlib.Decide.{dec_lt}
use borrow.Author.Tests.{leb-true, eqb-true}
use mathlib.Core.Path.{◌≡◌, refl, sym, ◌∙◌}
use mathlib.Core.Bool.{Bool, true, not}
use mathlib.Core.List.{List, map}
use lib.Dec.{leb}
use lib.IntN.{ℤ, pos, nat_abs}
use lib.ListN.{length, get_or, replicate, length-map, get_or-map, get_or-append, get_or-eq_default}
use lib.Seq.{sets}
use Rattle.rules.specs.Lists.{total, padded, every, between}
use Rattle.rules.specs.Packing.{Fit}
use Rattle.rules.specs.Questions.{first_no}
use Rattle.rules.specs.Record.{million, most_index, most_amount, increment, value_of, in_range, negative_zero, bits_in_range, last_year_of, fields_of, cells, reporting_in, figures_of}
use Rattle.rules.specs.Reading.{shares_sum_of, opening_questions, field_questions}
use Rattle.entries.proofs.Leading.{passing_all}
use Rattle.laws.proofs.Lists.{both_left, both_right, every_at, at_most, take_padded}
use Rattle.laws.proofs.Joined.{sets_filled, padded_all}
use Rattle.laws.proofs.TriangleRows.{cells_most}
use Rattle.packing.proofs.Pack.{length_row}
use Rattle.packing.specs.Field.{field_at, row_at}
use Rattle.layout.specs.Places.{start_of, places_of}
use Rattle.reading.specs.Reading.{row_read, Sound}
use Rattle.opening.proofs.Opened.{WholeRecord, whole_record}
use Rattle.reading.proofs.ListsRead.{lists, one_row}
use Rattle.reading.proofs.Ranges.{Passed, Tested, PlacesFound, places_found, ranges_pass}
use Rattle.reading.proofs.ReadAnswers.{fields_yes}

-- arrays of zeros into which the record was read hold its figures
pub record Filled (s : List ℕ) : Type 0 where
  pub exposures : sets (replicate 16 0) 0 (row_read s 1) ≡ (figures_of s).exposures
  pub increments : sets (replicate 136 (pos 0)) 0 (map (value_of increment) (row_read s 2)) ≡ (figures_of s).increments
  pub indices : sets (replicate 16 0) 0 (row_read s 3) ≡ (figures_of s).indices
  pub reporting : sets (replicate 16 0) 0 (row_read s 4) ≡ (figures_of s).reporting
  pub weight : get_or (row_read s 5) 0 0 ≡ (figures_of s).weight
  pub ulae : sets (replicate 16 0) 0 (row_read s 6) ≡ (figures_of s).ulae
  pub tail : get_or (row_read s 7) 0 0 ≡ (figures_of s).tail

-- an increment whose code is in range has a size in range, and so have all of them
size_most : (x : ℕ) → bits_in_range increment x ≡ true → nat_abs (value_of increment x) ≤ most_amount
unfolding bits_in_range in_range
size_most x h =
    let v = nat_abs (value_of increment x) in
    let range = both_left (in_range increment (value_of increment x)) (not (negative_zero increment x)) h in
    leb-true v most_amount (both_right (leb 0 v) (leb v most_amount) range)

sizes_most : (xs : List ℕ) → every (bits_in_range increment) xs ≡ true → (i : ℕ) → nat_abs (get_or (map (value_of increment) xs) i (pos 0)) ≤ most_amount
unfolding value_of
sizes_most xs h i = rw (get_or-map (value_of increment) xs i 0) (go (dec_lt i (length xs)))
  where
    go : Dec (i < length xs) → nat_abs (value_of increment (get_or xs i 0)) ≤ most_amount
    go (yes l) = size_most (get_or xs i 0) (every_at (bits_in_range increment) xs i 0 l h)
    go (no l) = rw (get_or-eq_default xs 0 {n = i} (omega arith)) (omega arith)

-- numbers from least to most in an array, zero past them
module _ (least most : ℕ) (xs : List ℕ) (h : every (between least most) xs ≡ true) where
  up_to : (i : ℕ) → get_or (padded 16 0 xs) i 0 ≤ most
  up_to = padded_all (λ (x : ℕ). x ≤ most) 0 zero-le 16 0 zero-le xs (at_most least most xs h)

  from : (i : ℕ) → i < length xs → least ≤ get_or (padded 16 0 xs) i 0
  unfolding padded
  from i l =
      let x = get_or xs i 0 in
      rw (get_or-append xs (replicate (16 - length xs) 0) 0 i l)
      (leb-true least x (both_left (leb least x) (leb x most) (every_at (between least most) xs i 0 l h)))

-- a row of one number up to most
one_most : (s : List ℕ) (at w most : ℕ) → every (between 0 most) (row_at s at w 1) ≡ true → field_at s at w ≤ most
one_most s at w most h = rw (one_row s at w) at (at_most 0 most (row_at s at w 1) h 0)

-- a row that is in range is read whole
module _ (s : List ℕ) (p : Passed s 8) {i : ℕ} {test : ℕ → Bool} {row : List ℕ} (t : Tested s i test row) where
  in_range_lem : i < 8 → every test row ≡ true
  in_range_lem l = sym t.same ∙ p i l

  read_whole : i < 8 → row_read s i ≡ row
  read_whole l = t.read (λ j m. p j (omega arith)) ∙ passing_all test row (in_range_lem l)

module _ (s : List ℕ) (h : WholeRecord s) (p : Passed s 8) where
  abbrev k : ℕ
  k = last_year_of s

  rows_found : PlacesFound s (last_year_of s) (places_of (last_year_of s))
  rows_found = places_found h (last_year_of s) (places_of (last_year_of s)) refl refl

  fill : (i w n at : ℕ) (test : ℕ → Bool) (xs : List ℕ) → i < 8 → n ≤ 16 → Tested s i test (row_at s at w n) → xs ≡ row_at s at w n
      → sets (replicate 16 0) 0 (row_read s i) ≡ padded 16 0 xs
  fill i w n at test xs l few t e =
      rw (read_whole s p t l, e) (sets_filled 16 0 (row_at s at w n) (omega (arith, length_row s at w n)))

  whole_filled : Filled s
  unfolding figures_of places_of
  whole_filled =
      let f = rows_found in
      let l = lists s h in
      let few = h.few in
      let cells-row = row_at s (start_of k 2) 35 (cells k) in
      record {
        exposures = fill 1 20 (k + 1) _ _ _ (omega arith) (omega arith) f.exposures l.exposures;
        increments =
            rw (read_whole s p f.increments (omega arith), l.increments)
            (sets_filled 136 (pos 0) (map (value_of increment) cells-row)
            (omega (arith, length-map cells-row (value_of increment), length_row s (start_of k 2) 35 (cells k), cells_most k few)));
        indices = fill 3 23 (k + 1) _ _ _ (omega arith) (omega arith) f.indices l.indices;
        reporting = fill 4 20 (k + 1) _ _ _ (omega arith) (omega arith) f.reporting l.reporting;
        weight = rw (read_whole s p f.weight (omega arith), one_row s (start_of k 5) 20) (sym l.weight);
        ulae = fill 6 34 (k + 1) _ _ _ (omega arith) (omega arith) f.ulae l.ulae;
        tail = rw (read_whole s p f.tail (omega arith), one_row s (start_of k 7) 34) (sym l.tail);
      }

  figures_sound : shares_sum_of s ≡ true → Sound (figures_of s)
  unfolding figures_of places_of shares_sum_of
  figures_sound sum =
      let f = rows_found in
      let l = lists s h in
      let n = row_at s 4 20 (k + 1) in
      let c = row_at s (start_of k 2) 35 (cells k) in
      let n-range = in_range_lem s p f.exposures (omega arith) in
      let e = row_at s (start_of k 3) 23 (k + 1) in
      let e-range = in_range_lem s p f.indices (omega arith) in
      record {
        some = h.some;
        few = h.few;
        exposures = λ i le. rw l.exposures (from 1 million n n-range i (omega (arith, length_row s 4 20 (k + 1))), up_to 1 million n n-range i);
        exposures_most = rw l.exposures (up_to 1 million n n-range);
        increments =
            rw l.increments
            (padded_all (λ (z : ℤ). nat_abs z ≤ most_amount) (pos 0) zero-le 136 (pos 0) zero-le (map (value_of increment) c)
            (sizes_most c (in_range_lem s p f.increments (omega arith))));
        indices = rw l.indices (up_to 1 most_index e e-range);
        first_index = rw l.indices (from 1 most_index e e-range 0 (omega (arith, length_row s (start_of k 3) 23 (k + 1))));
        reporting = rw l.reporting (up_to _ _ _ (in_range_lem s p f.reporting (omega arith)));
        reporting_sum =
            rw (take_padded 16 (k + 1) 0 (reporting_in k (fields_of s)) (rw l.reporting (length_row s (start_of k 4) 20 (k + 1))))
            (eqb-true (total (reporting_in k (fields_of s))) million sum);
        weight = rw l.weight (one_most s (start_of k 5) 20 million (in_range_lem s p f.weight (omega arith)));
        ulae = rw l.ulae (up_to _ _ _ (in_range_lem s p f.ulae (omega arith)));
        tail = rw l.tail (one_most s (start_of k 7) 34 most_amount (in_range_lem s p f.tail (omega arith)));
      }

-- what is read of an accepted record
pub figures_filled : (s : List ℕ) → Fit 8 s → first_no (opening_questions s) ≡ 0 → first_no (field_questions s) ≡ 0 → Filled s
figures_filled s b o e =
    let h = whole_record s b o in
    whole_filled s h (ranges_pass s h (fields_yes s e).0)

-- its figures are sound
pub sound_figures : (s : List ℕ) → Fit 8 s → first_no (opening_questions s) ≡ 0 → first_no (field_questions s) ≡ 0 → Sound (figures_of s)
sound_figures s b o e =
    let h = whole_record s b o in
    figures_sound s h (ranges_pass s h (fields_yes s e).0) (fields_yes s e).1
