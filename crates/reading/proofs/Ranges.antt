-- Question 4 of a record that has passed questions 1 and 2, row by row, and what is read of each row by its place. Assumes nothing.
use Prim.Native.Nat.{ℕ, suc, ◌+◌, ◌*◌, ◌<◌, ◌≤◌}
use native.Mathlib.Decide.{ℕ_discrete}
use native.Mathlib.Nat.{not-suc-le-zero}
use native.Mathlib.Omega.{arith}
use borrow.Author.Tests.{le-leb}
use mathlib.Core.Path.{◌≡◌, refl, ap, ◌∙◌}
use mathlib.Core.Bool.{Bool, true, false, and-true}
use mathlib.Core.List.{List, [], ◌∷◌}
use lib.ListN.{length}
use Rattle.rules.specs.Lists.{every, between}
use Rattle.rules.specs.Record.{Kind, million, most_index, most_amount, layout, section, cells, increment, value_of, in_range, negative_zero, bits_in_range, bit_count, last_year_of, codes_of}
use Rattle.rules.specs.Reading.{in_ranges}
use Rattle.entries.specs.Leading.{passing}
use Rattle.packing.specs.Field.{row_at}
use Rattle.layout.specs.Places.{places_of}
use Rattle.layout.specs.declared.Places.{Places}
use Rattle.layout.proofs.RecordSizes.{bytes_room, bytes_least, bits_most, starts}
use Rattle.laws.proofs.TriangleRows.{cells_most}
use Rattle.reading.specs.Reading.{RowInside, row_read}
use Rattle.opening.proofs.Opened.{WholeRecord}
use Rattle.reading.proofs.RowsRead.{ranges_are, codes_row, rows, years_field}
use Rattle.reading.proofs.ListsRead.{codes, one_row}
use Rattle.reading.proofs.Reached.{kind_at, row_fits_of, reached, unreached, rows_pass, row_fails, row_passes_lem}

-- whether every field of row i is in range
abbrev pub fits : List ℕ → ℕ → Bool
fits s i = row_fits_of (layout (last_year_of s)) (codes_of s) i

-- every row before row i is in range
abbrev pub Passed : List ℕ → ℕ → Type 0
Passed s i = (j : ℕ) → j < i → fits s j ≡ true

pub passed_more : (s : List ℕ) (i : ℕ) → Passed s i → fits s i ≡ true → Passed s (suc i)
passed_more s i h e j l = go (ℕ_discrete j i)
  where
    go : Dec (j ≡ i) → fits s j ≡ true
    go (yes q) = rw q e
    go (no q) = h j (omega arith)

-- a row after one that is not in range
pub not_read : (s : List ℕ) (i j : ℕ) → j < i → fits s j ≡ false → row_read s i ≡ []
unfolding row_read
not_read s i j l e = unreached (layout (last_year_of s)) (codes_of s) i j l e

-- a kind without a sign bit
abbrev unsigned : ℕ → ℕ → ℕ → Kind
unsigned w l m = record { signed = false; width = w; least = l; most = m }

-- its range
plain : (w l m x : ℕ) → bits_in_range (unsigned w l m) x ≡ between l m x
unfolding bits_in_range in_range negative_zero value_of
plain w l m x = and-true (between l m x)

every_plain : (w l m : ℕ) (xs : List ℕ) → every (bits_in_range (unsigned w l m)) xs ≡ every (between l m) xs
unfolding every
every_plain w l m [] = refl
every_plain w l m (x ∷ xs) = rw (plain w l m x, every_plain w l m xs)

passing_plain : (w l m : ℕ) (xs : List ℕ) → passing (bits_in_range (unsigned w l m)) xs ≡ passing (between l m) xs
unfolding passing
passing_plain w l m [] = refl
passing_plain w l m (x ∷ xs) = rw (plain w l m x, passing_plain w l m xs)

-- a row with the range that the reading asks for: whether it is in range, and what is read of it
pub record Tested (s : List ℕ) (i : ℕ) (p : ℕ → Bool) (row : List ℕ) : Type 0 where
  pub same : fits s i ≡ every p row
  pub read : Passed s i → row_read s i ≡ passing p row

module _ (s : List ℕ) where
  -- a row of a kind without a sign bit
  tested_plain : (i w l m : ℕ) (row : List ℕ) → i < length (layout (last_year_of s)) → kind_at (layout (last_year_of s)) i ≡ unsigned w l m
      → section (layout (last_year_of s)) i (codes_of s) ≡ row → Tested s i (between l m) row
  unfolding row_fits_of row_read
  tested_plain i w l m row lt κ e = record {
    same = rw (κ, e) (every_plain w l m row);
    read = λ p. reached (layout (last_year_of s)) (codes_of s) i lt p ∙ (rw (κ, e) (passing_plain w l m row));
  }

  -- the row of increments
  tested_increments : (row : List ℕ) → section (layout (last_year_of s)) 2 (codes_of s) ≡ row → Tested s 2 (bits_in_range increment) row
  unfolding layout row_fits_of row_read
  tested_increments row e = record {
    same = ap (every (bits_in_range increment)) e;
    read = λ p. reached (layout (last_year_of s)) (codes_of s) 2 (omega arith) p ∙ ap (passing (bits_in_range increment)) e;
  }

module _ (s : List ℕ) (h : WholeRecord s) where
  -- question 4
  pub in_ranges_lem : Passed s 8 → in_ranges s ≡ true
  unfolding layout row_fits_of
  in_ranges_lem p =
      rw (ranges_are s h)
      (rows_pass bits_in_range (layout (last_year_of s)) (rows s h) (λ i l. rw (codes_row s h i) at (p i l)))

  pub out_of_range : (i : ℕ) → i < 8 → fits s i ≡ false → in_ranges s ≡ false
  unfolding layout row_fits_of
  out_of_range i l e = rw (ranges_are s h) (row_fails bits_in_range (layout (last_year_of s)) (rows s h) i l (rw (codes_row s h i) at e))

  pub ranges_pass : in_ranges s ≡ true → Passed s 8
  unfolding layout row_fits_of
  ranges_pass e i l = rw (codes_row s h i) (row_passes_lem bits_in_range (layout (last_year_of s)) (rows s h) i l (rw (ranges_are s h) at e))

  -- the first row is k
  pub passed_first : Passed s 1
  unfolding layout every
  passed_first =
      let k = last_year_of s in
      let row : row_at s 0 4 1 ≡ k ∷ [] = rw (one_row s 0 4, years_field s h) in
      let first = tested_plain s 0 4 1 15 (k ∷ []) (omega arith) refl ((codes s h).years ∙ row) in
      let yes : every (between 1 15) (k ∷ []) ≡ true = rw (le-leb 1 k h.some, le-leb k 15 (omega (arith, h.few))) in
      passed_more s 0 (λ j l. absurd (not-suc-le-zero l)) (first.same ∙ yes)

  -- a row that ends before the filling bits lies within the record
  row_within : (at w n : ℕ) → 0 < w → w ≤ 56 → at + w * n ≤ bit_count (last_year_of s) → RowInside s at w n
  row_within at w n a b l =
      let k = last_year_of s in
      let room = bytes_room k in
      let least = bytes_least k h.some in
      let most = bits_most k h.few in
      let long = h.long in
      record { some = a; narrow = b; word = omega arith; short = omega arith; inside = omega arith }

-- the rows by the places at which the code finds them: each lies within the record
pub record RowsInside (s : List ℕ) (k : ℕ) (p : Places) : Type 0 where
  pub exposures : RowInside s 4 20 (k + 1)
  pub increments : RowInside s p.increments 35 p.cells
  pub indices : RowInside s p.indices 23 (k + 1)
  pub reporting : RowInside s p.reporting 20 (k + 1)
  pub weight : RowInside s p.weight 20 1
  pub ulae : RowInside s p.ulae 34 (k + 1)
  pub tail : RowInside s p.tail 34 1
  pub few : p.cells ≤ 136

pub within : {s : List ℕ} → WholeRecord s → (k : ℕ) (p : Places) → k ≡ last_year_of s → p ≡ places_of k → RowsInside s k p
unfolding places_of
within {s} h k p e q =
    let y = last_year_of s in
    let at = starts y in
    let few = cells_most y h.few in
    rw (q, e) (record {
      exposures = row_within s h 4 20 (y + 1) (omega arith) (omega arith) (omega arith);
      increments = row_within s h _ 35 (cells y) (omega arith) (omega arith) (omega arith);
      indices = row_within s h _ 23 (y + 1) (omega arith) (omega arith) (omega arith);
      reporting = row_within s h _ 20 (y + 1) (omega arith) (omega arith) (omega arith);
      weight = row_within s h _ 20 1 (omega arith) (omega arith) (omega arith);
      ulae = row_within s h _ 34 (y + 1) (omega arith) (omega arith) (omega arith);
      tail = row_within s h _ 34 1 (omega arith) (omega arith) (omega arith);
      few = few;
    })

-- and each is tested by its range
pub record PlacesFound (s : List ℕ) (k : ℕ) (p : Places) : Type 0 where
  pub exposures : Tested s 1 (between 1 million) (row_at s 4 20 (k + 1))
  pub increments : Tested s 2 (bits_in_range increment) (row_at s p.increments 35 p.cells)
  pub indices : Tested s 3 (between 1 most_index) (row_at s p.indices 23 (k + 1))
  pub reporting : Tested s 4 (between 0 million) (row_at s p.reporting 20 (k + 1))
  pub weight : Tested s 5 (between 0 million) (row_at s p.weight 20 1)
  pub ulae : Tested s 6 (between 0 most_amount) (row_at s p.ulae 34 (k + 1))
  pub tail : Tested s 7 (between 0 most_amount) (row_at s p.tail 34 1)

pub places_found : {s : List ℕ} → WholeRecord s → (k : ℕ) (p : Places) → k ≡ last_year_of s → p ≡ places_of k → PlacesFound s k p
unfolding layout places_of
places_found {s} h k p e q =
    let at = codes s h in
    rw (q, e) (record {
      exposures = tested_plain s 1 20 1 million _ (omega arith) refl at.exposures;
      increments = tested_increments s _ at.increments;
      indices = tested_plain s 3 23 1 most_index _ (omega arith) refl at.indices;
      reporting = tested_plain s 4 20 0 million _ (omega arith) refl at.reporting;
      weight = tested_plain s 5 20 0 million _ (omega arith) refl at.weight;
      ulae = tested_plain s 6 34 0 most_amount _ (omega arith) refl at.ulae;
      tail = tested_plain s 7 34 0 most_amount _ (omega arith) refl at.tail;
    })
