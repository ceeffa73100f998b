-- What the finding says is so: the field that is named is the first that is not in range, and its row and column are years of the record. Assumes nothing.
use Prim.Native.Nat.{ℕ, ◌-◌, ◌≤◌, ◌<◌}
use native.Mathlib.Decide.{ℕ_discrete}
use native.Mathlib.Omega.{arith}
use mathlib.Core.Path.{◌≡◌, refl, sym, ◌∙◌}
use mathlib.Core.Bool.{Bool, true, false}
use mathlib.Core.List.{List}
use Rattle.rules.specs.Lists.{below, every}
use Rattle.rules.specs.Packing.{Fit}
use Rattle.rules.specs.Record.{layout, count_of, last_year_of}
use Rattle.rules.specs.Reading.{in_ranges}
use Rattle.rules.specs.Triangle.{row_start}
use Rattle.rules.specs.Results.{most_entries}
use Rattle.rules.specs.Engine.{run_answer}
use Rattle.laws.proofs.Lists.{every_up_to}
use Rattle.reasons.proofs.Counted.{no_both, counted, stops_below}
use Rattle.layout.proofs.RecordSizes.{years_lt}
use Rattle.opening.proofs.Opened.{WholeRecord, whole_record}
use Rattle.reading.proofs.Ranges.{in_ranges_lem, passed_first}
use Rattle.outcomes.proofs.Said.{ranges_no}
use Rattle.record_findings.proofs.Refused.{opened}
use Rattle.field_spots.specs.Spots.{spot_of}
use Rattle.field_spots.proofs.Cells.{CellAt, cell_at}
use Rattle.field_findings.specs.Fields.{field_passes, row_in_range, first_row, first_field_of, finding_at, field_finding}
use Rattle.field_findings.proofs.Placed.{by_row, row_is}

-- field m of row r is not in range, and every field before it is
pub record FieldFound (s : List ℕ) (r m : ℕ) : Type 0 where
  pub least : 1 ≤ r
  pub few : r < 8
  pub inside : m < count_of (last_year_of s) r
  pub no : field_passes s r m ≡ false
  pub rows_before : every (row_in_range s) (below r) ≡ true
  pub fields_before : every (field_passes s r) (below m) ≡ true

module _ (s : List ℕ) (h : WholeRecord s) where
  -- the row of k itself is in range
  pub years_pass : row_in_range s 0 ≡ true
  years_pass = row_is s h 0 (omega arith) ∙ passed_first s h 0 (omega arith)

  -- where question 4 says no, one of the eight rows is not
  rows_no : in_ranges s ≡ false → every (row_in_range s) (below 8) ≡ false
  rows_no e = go (every (row_in_range s) (below 8)) refl
    where
      go : (b : Bool) → every (row_in_range s) (below 8) ≡ b → every (row_in_range s) (below 8) ≡ false
      go false f = f
      go true f = absurd (no_both (in_ranges s) (in_ranges_lem s h (λ j l. sym (row_is s h j l) ∙ every_up_to (row_in_range s) (λ r. r) 8 j f l)) e)

  pub field_found : in_ranges s ≡ false → FieldFound s (first_row s) (first_field_of s (first_row s))
  unfolding first_row first_field_of row_in_range
  field_found e =
      let r = first_row s in
      let rows = counted (row_in_range s) 8 in
      let few = stops_below (row_in_range s) 8 (rows_no e) in
      let fields = counted (field_passes s r) (count_of (last_year_of s) r) in
      let inside = stops_below (field_passes s r) (count_of (last_year_of s) r) (rows.stop few) in
      record {
        least = from_one (ℕ_discrete r 0);
        few = few;
        inside = inside;
        no = fields.stop inside;
        rows_before = rows.before;
        fields_before = fields.before;
      }
    where
      from_one : Dec (first_row s ≡ 0) → 1 ≤ first_row s
      from_one (yes z) = absurd (no_both (row_in_range s 0) years_pass (rw z at ((counted (row_in_range s) 8).stop (stops_below (row_in_range s) 8 (rows_no e)))))
      from_one (no z) = omega arith

-- the row and the column of a field are below 16
spot_small : (k m : ℕ) → k < 16 → (r : ℕ) → r < 8 → m < count_of k r → ((spot_of k r m).row < 16) × ((spot_of k r m).column < 16)
unfolding spot_of layout
spot_small k m l =
    by_row (λ r. m < count_of k r → ((spot_of k r m).row < 16) × ((spot_of k r m).column < 16))
    (λ i. (omega arith, omega arith))
    (λ i. (omega arith, omega arith))
    (λ i. let c = cell_at k m i in (omega (arith, c.row), omega (arith, c.column)))
    (λ i. (omega arith, omega arith))
    (λ i. (omega arith, omega arith))
    (λ i. (omega arith, omega arith))
    (λ i. (omega arith, omega arith))
    (λ i. (omega arith, omega arith))

module _ (s : List ℕ) (f : FieldFound s (first_row s) (first_field_of s (first_row s))) where
  pub field_small : Fit 8 s → ((field_finding s).row < 16) × ((field_finding s).column < 16)
  unfolding field_finding finding_at
  field_small b = spot_small (last_year_of s) (first_field_of s (first_row s)) (years_lt s b) (first_row s) f.few f.inside

  -- an increment is named by the origin and the development year of its cell
  pub cell_named : first_row s ≡ 2 → CellAt (last_year_of s) (first_field_of s 2) (field_finding s).row × ((field_finding s).column ≡ first_field_of s 2 - row_start (last_year_of s) (field_finding s).row)
  unfolding field_finding finding_at spot_of layout
  cell_named e = let inside = rw e at f.inside in rw e (cell_at (last_year_of s) (first_field_of s 2) inside, refl)

module _ (year : ℕ) (s : List ℕ) where
  -- question 4: the field that is named is the first that is not in range
  pub field_no : Fit 8 s → run_answer year s most_entries ≡ 4 → FieldFound s (first_row s) (first_field_of s (first_row s))
  field_no b run = field_found s (whole_record s b (opened year s 4 refl refl run)) (ranges_no year s run)
