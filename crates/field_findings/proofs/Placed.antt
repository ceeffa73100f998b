-- The rows of a record that has passed questions 1 and 2 by their numbers: where each lies, its codes, and the tests of its fields. Assumes nothing.
use Prim.Native.Nat.{ℕ, zero, suc, ◌+◌, ◌*◌, ◌≤◌, ◌<◌, ◌^◌}
use native.Mathlib.Omega.{arith}
use mathlib.Core.Path.{◌≡◌, refl, sym, ap, ◌∙◌}
use mathlib.Core.Bool.{false, and-true}
use mathlib.Core.List.{List}
use lib.IntN.{pos}
use lib.ListN.{get_or}
use Rattle.rules.specs.Lists.{between, total}
use Rattle.rules.specs.Record.{most_amount, layout, kinds_of, count_of, section, value_of, in_range, negative_zero, bits_in_range, last_year_of, codes_of}
use Rattle.laws.proofs.Lists.{get_d_up_to, every_same}
use Rattle.packing.specs.Field.{field_at, row_at}
use Rattle.packing.proofs.Pack.{field_lt}
use Rattle.layout.specs.Places.{start_of, places_of}
use Rattle.layout.proofs.RecordSizes.{starts}
use Rattle.opening.proofs.Opened.{WholeRecord}
use Rattle.reading.specs.Reading.{RowInside}
use Rattle.reading.proofs.Reached.{row_fits_of}
use Rattle.reading.proofs.ListsRead.{codes}
use Rattle.reading.proofs.Ranges.{fits, within}
use Rattle.field_rows.specs.declared.Row.{Row}
use Rattle.field_rows.specs.Rows.{kind_of, row_of, passes_in, value_in, least_in}
use Rattle.field_findings.specs.Fields.{code_at, field_passes, row_in_range, least_of}

-- what holds of each of the rows 0 to 7
pub by_row : (P : ℕ → Type 0) → P 0 → P 1 → P 2 → P 3 → P 4 → P 5 → P 6 → P 7 → (r : ℕ) → r < 8 → P r
by_row P a b c d e f g h zero l = a
by_row P a b c d e f g h (suc zero) l = b
by_row P a b c d e f g h (suc (suc zero)) l = c
by_row P a b c d e f g h (suc (suc (suc zero))) l = d
by_row P a b c d e f g h (suc (suc (suc (suc zero)))) l = e
by_row P a b c d e f g h (suc (suc (suc (suc (suc zero))))) l = f
by_row P a b c d e f g h (suc (suc (suc (suc (suc (suc zero)))))) l = g
by_row P a b c d e f g h (suc (suc (suc (suc (suc (suc (suc zero))))))) l = h
by_row P a b c d e f g h (suc (suc (suc (suc (suc (suc (suc (suc n)))))))) l = absurd (omega arith)

-- a kind without a sign bit: its range and its values
plain : (w l m x : ℕ) → between l m x ≡ bits_in_range (record { signed = false; width = w; least = l; most = m }) x
unfolding bits_in_range in_range negative_zero value_of
plain w l m x = sym (and-true (between l m x))

plain_value : (w l m x : ℕ) → pos x ≡ value_of (record { signed = false; width = w; least = l; most = m }) x
unfolding value_of
plain_value w l m x = refl

-- the test and the value by the row are those by its kind
passes_is : (k x r : ℕ) → r < 8 → passes_in (row_of k r) x ≡ bits_in_range (kind_of k r) x
unfolding passes_in row_of layout
passes_is k x =
    by_row (λ r. passes_in (row_of k r) x ≡ bits_in_range (kind_of k r) x) (plain _ _ _ x) (plain _ _ _ x) refl (plain _ _ _ x) (plain _ _ _ x) (plain _ _ _ x) (plain _ _ _ x) (plain _ _ _ x)

value_is : (k x r : ℕ) → r < 8 → value_in (row_of k r) x ≡ value_of (kind_of k r) x
unfolding value_in row_of layout
value_is k x =
    by_row (λ r. value_in (row_of k r) x ≡ value_of (kind_of k r) x) (plain_value _ _ _ x) (plain_value _ _ _ x) refl (plain_value _ _ _ x) (plain_value _ _ _ x) (plain_value _ _ _ x) (plain_value _ _ _ x) (plain_value _ _ _ x)

-- the bits of a row's fields are at most 35, and its limits fit a signed number
abbrev Small : ℕ → ℕ → Type 0
Small k r = ((x : ℕ) → x < 2 ^ (row_of k r).bits → x < 2 ^ 35) × (((row_of k r).least ≤ 1) × ((row_of k r).most ≤ most_amount))

row_small : (k r : ℕ) → r < 8 → Small k r
unfolding row_of layout
row_small k =
    by_row (λ r. Small k r)
    ((λ x l. omega arith), (omega arith, omega arith))
    ((λ x l. omega arith), (omega arith, omega arith))
    ((λ x l. omega arith), (omega arith, omega arith))
    ((λ x l. omega arith), (omega arith, omega arith))
    ((λ x l. omega arith), (omega arith, omega arith))
    ((λ x l. omega arith), (omega arith, omega arith))
    ((λ x l. omega arith), (omega arith, omega arith))
    ((λ x l. omega arith), (omega arith, omega arith))

module _ (s : List ℕ) (h : WholeRecord s) where
  abbrev k : ℕ
  k = last_year_of s

  -- the codes of row r
  codes_at : (r : ℕ) → r < 8 → section (layout (last_year_of s)) r (codes_of s) ≡ row_at s (row_of (last_year_of s) r).at (row_of (last_year_of s) r).bits (row_of (last_year_of s) r).count
  unfolding row_of layout start_of kinds_of total
  codes_at =
      let c = codes s h in
      by_row (λ r. section (layout k) r (codes_of s) ≡ row_at s (row_of k r).at (row_of k r).bits (row_of k r).count)
      c.years (c.exposures ∙ ap (λ (a : ℕ). row_at s a 20 (k + 1)) (sym (starts k).exposures))
      c.increments c.indices c.reporting c.weight c.ulae c.tail

  -- rows from row 1 on lie within the record
  row_inside : (r : ℕ) → r < 8 → 1 ≤ r → RowInside s (row_of (last_year_of s) r).at (row_of (last_year_of s) r).bits (row_of (last_year_of s) r).count
  unfolding row_of layout places_of
  row_inside =
      let w = within h k (places_of k) refl refl in
      by_row (λ r. 1 ≤ r → RowInside s (row_of k r).at (row_of k r).bits (row_of k r).count)
      (λ l. absurd (omega arith)) (λ l. rw (starts k).exposures w.exposures) (λ l. w.increments) (λ l. w.indices) (λ l. w.reporting) (λ l. w.weight) (λ l. w.ulae) (λ l. w.tail)

  -- field m of row r
  code_is : (r : ℕ) → r < 8 → (m : ℕ) → m < count_of (last_year_of s) r
      → code_at s r m ≡ field_at s ((row_of (last_year_of s) r).at + (row_of (last_year_of s) r).bits * m) (row_of (last_year_of s) r).bits
  unfolding code_at row_at row_of
  code_is r l m i =
      let w = (row_of k r).bits in
      ap (λ (xs : List ℕ). get_or xs m 0) (codes_at r l) ∙ get_d_up_to (λ i. field_at s ((row_of k r).at + w * i) w) (count_of k r) m 0 i

  -- and whether it is in range
  field_is : (r : ℕ) → r < 8 → (m : ℕ) → m < count_of (last_year_of s) r
      → field_passes s r m ≡ passes_in (row_of (last_year_of s) r) (field_at s ((row_of (last_year_of s) r).at + (row_of (last_year_of s) r).bits * m) (row_of (last_year_of s) r).bits)
  unfolding field_passes
  field_is r l m i = rw (code_is r l m i) (sym (passes_is k _ r l))

  -- every field of a row
  pub row_is : (r : ℕ) → r < 8 → row_in_range s r ≡ fits s r
  unfolding row_in_range field_passes row_fits_of row_at row_of
  row_is r l =
      let w = (row_of k r).bits in
      let f : ℕ → ℕ = λ i. field_at s ((row_of k r).at + w * i) w in
      rw (codes_at r l)
      (every_same (field_passes s r) (bits_in_range (kind_of k r)) (λ i. i) f (count_of k r) (λ i m. ap (bits_in_range (kind_of k r)) (code_is r l i m)))

-- row r as the code holds it
module _ {s : List ℕ} (h : WholeRecord s) {k r : ℕ} {row : Row} (y : k ≡ last_year_of s) (e : row ≡ row_of k r) (l : r < 8) where
  pub held_inside : 1 ≤ r → RowInside s row.at row.bits row.count
  held_inside o = rw (e, y) (row_inside s h r l o)

  pub held_count : row.count ≡ count_of (last_year_of s) r
  unfolding row_of
  held_count = rw (e, y)

  -- the bits of a field m, and whether they are in range
  pub held_small : (m : ℕ) → field_at s (row.at + row.bits * m) row.bits < 2 ^ 35
  held_small m = rw e ((row_small k r l).0 _ (field_lt s ((row_of k r).at + (row_of k r).bits * m) (row_of k r).bits))

  pub held_code : (m : ℕ) → m < row.count → field_at s (row.at + row.bits * m) row.bits ≡ code_at s r m
  held_code m i = rw (e, y) (sym (code_is s h r l m (rw held_count at i)))

  pub held_passes : (m : ℕ) → m < row.count → passes_in row (field_at s (row.at + row.bits * m) row.bits) ≡ field_passes s r m
  held_passes m i = rw (e, y) (sym (field_is s h r l m (rw held_count at i)))

  -- its value, and the least and the most of its kind
  pub held_value : (x : ℕ) → value_in row x ≡ value_of (kind_of (last_year_of s) r) x
  held_value x = rw (e, y) (value_is (last_year_of s) x r l)

  pub held_least : least_in row ≡ least_of (kind_of (last_year_of s) r)
  unfolding least_in least_of row_of
  held_least = rw (e, y)

  pub held_most : row.most ≡ (kind_of (last_year_of s) r).most
  unfolding row_of
  held_most = rw (e, y)

  pub held_limits : (row.least < 2 ^ 63) × (row.most < 2 ^ 63)
  held_limits = rw e (let few = (row_small k r l).1 in (omega arith, omega arith))
