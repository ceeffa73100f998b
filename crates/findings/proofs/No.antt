-- At the place that is found the question says no whose number the run answers, whatever the valuation year. Assumes nothing.
use Prim.Native.Nat.{ℕ, suc, ◌+◌, ◌-◌, ◌≤◌}
use native.Mathlib.Omega.{arith}
use native.Mathlib.Decide.{ℕ_discrete}
use native.Mathlib.Numerals.{add-one}
use borrow.Author.Tests.{ne_eqb}
use mathlib.Core.Path.{◌≡◌}
use mathlib.Core.Bool.{Bool, true, false, cond}
use mathlib.Core.List.{List}
use lib.Dec.{ltb}
use lib.IntN.{ℤ, pos}
use Rattle.rules.specs.Packing.{Fit}
use Rattle.rules.specs.Record.{last_year_of, figures_of}
use Rattle.rules.specs.Triangle.{column_total, diagonal_total, all_total}
use Rattle.rules.specs.Results.{square_of, paid_in, development_in}
use Rattle.reasons.specs.Reasons.{first_below}
use Rattle.finding.specs.declared.Finding.{Finding}
use Rattle.finding.specs.Places.{nowhere, development_year, payment_year, field, found}
use Rattle.outcomes.proofs.Said as said
use Rattle.field_spots.specs.Spots.{cell_row, spot_of}
use Rattle.field_findings.specs.Fields.{first_row, first_field_of, finding_at, field_finding}
use Rattle.field_spots.proofs.Cells.{CellAt}
use Rattle.field_findings.proofs.Named.{FieldFound, field_no, cell_named}
use Rattle.triangle_findings.specs.TriangleFindings.{total_passes, totals_found, totals_finding}
use Rattle.cumulative_findings.proofs.Cumulatives as cumulative
use Rattle.development_findings.proofs.Development as development
use Rattle.triangle_findings.proofs.No as triangle
use Rattle.factor_findings.proofs.Running as running
use Rattle.factor_findings.proofs.Levels as level
use Rattle.tail_findings.specs.TailFindings.{tail_average_finding}
use Rattle.tail_findings.proofs.Told as tail
use Rattle.reserve_findings.specs.ReserveFindings.{ultimate_finding}
use Rattle.reserve_findings.proofs.Over as over
use Rattle.provisions_again.proofs.Passing.{latest_refused, divisor_refused, corrected_refused}
use Rattle.ladder_findings.specs.LadderFindings.{first_row_over, years_within, cell_finding, completed_finding}
use Rattle.ladder_findings.proofs.Within as ladder
use Rattle.findings.specs.Findings.{finding_of}
use Rattle.findings.proofs.Numbers.{Run, by_number}
use Rattle.findings.specs.PlacePasses.{field_index, total_passes_at, figure_passes, place_passes}

-- the field that stands at the place of field m of row r is that field
increment_index : (k r m : ℕ) → r ≡ 2 → CellAt k m (cell_row k m) → field_index k r (spot_of k r m).row (spot_of k r m).column ≡ m
unfolding field_index spot_of
increment_index k r m e cell = rw e cell.place

share_index : (k r m : ℕ) → r ≡ 4 → field_index k r (spot_of k r m).row (spot_of k r m).column ≡ m
unfolding field_index spot_of
share_index k r m e = rw e

other_index : (k r m : ℕ) → (r ≡ 2 → ⊥) → (r ≡ 4 → ⊥) → field_index k r (spot_of k r m).row (spot_of k r m).column ≡ m
unfolding field_index spot_of
other_index k r m a b = rw (ne_eqb r 2 a, ne_eqb r 4 b)

pub index_is : (k r m : ℕ) → (r ≡ 2 → CellAt k m (cell_row k m)) → field_index k r (spot_of k r m).row (spot_of k r m).column ≡ m
index_is k r m cell = go (ℕ_discrete r 2) (ℕ_discrete r 4)
  where
    go : Dec (r ≡ 2) → Dec (r ≡ 4) → field_index k r (spot_of k r m).row (spot_of k r m).column ≡ m
    go (yes e) b = increment_index k r m e (cell e)
    go (no a) (yes e) = share_index k r m e
    go (no a) (no b) = other_index k r m a b

-- an increment stands in its cell
pub field_cell : (s : List ℕ) → FieldFound s (first_row s) (first_field_of s (first_row s)) → first_row s ≡ 2 → CellAt (last_year_of s) (first_field_of s (first_row s)) (cell_row (last_year_of s) (first_field_of s (first_row s)))
unfolding field_finding finding_at spot_of
field_cell s h e = rw e (rw e at (cell_named s h e).0)

-- a total that is found is that of its place
total_there : (q : List (List ℤ)) (k : ℕ) → total_passes (totals_finding q k) ≡ false → total_passes_at q (totals_finding q k) ≡ false
unfolding totals_finding totals_found total_passes total_passes_at
total_there q k h = go (ltb (first_below (column_total q) k) (k + 1)) (ltb (first_below (diagonal_total q) k) (k + 1)) h
  where
    here : Bool → Bool → Finding
    here a b =
        cond a (found development_year 0 (first_below (column_total q) k) (column_total q (first_below (column_total q) k)) (pos 0) (pos 0))
        (cond b (found payment_year (first_below (diagonal_total q) k) 0 (diagonal_total q (first_below (diagonal_total q) k)) (pos 0) (pos 0)) (found nowhere 0 0 (all_total q) (pos 0) (pos 0)))

    go : (a b : Bool) → total_passes (here a b) ≡ false → total_passes_at q (here a b) ≡ false
    go true b h = h
    go false true h = h
    go false false h = h

module _ (year : ℕ) (s : List ℕ) where
  no_1 : Run year s 1 → place_passes s 1 (finding_of s 1) ≡ false
  unfolding place_passes
  no_1 run = said.first_byte_no year s run

  no_2 : Run year s 2 → place_passes s 2 (finding_of s 2) ≡ false
  unfolding place_passes
  no_2 run = said.length_no year s run

  no_4 : Fit 8 s → Run year s 4 → place_passes s 4 (finding_of s 4) ≡ false
  unfolding place_passes finding_of field_finding finding_at
  no_4 bytes run =
      let h = field_no year s bytes run in
      let r = first_row s in
      let m = first_field_of s r in
      let k = last_year_of s in
      let e : field + r - field ≡ r = omega arith in
      let i : field_index k r (spot_of k r m).row (spot_of k r m).column ≡ m = index_is k r m (λ two. field_cell s h two) in
      rw (e, i) h.no

  no_5 : Run year s 5 → place_passes s 5 (finding_of s 5) ≡ false
  unfolding place_passes
  no_5 run = said.shares_no year s run

  no_6 : Run year s 6 → place_passes s 6 (finding_of s 6) ≡ false
  unfolding place_passes figure_passes finding_of
  no_6 run = (cumulative.cumulative_no (figures_of s).k (figures_of s).increments (said.cumulatives_no year s run)).0

  no_13 : Run year s 13 → place_passes s 13 (finding_of s 13) ≡ false
  unfolding place_passes figure_passes finding_of
  no_13 run = (development.development_no (figures_of s).k (figures_of s).increments (said.development_no year s run)).0

  no_7 : Run year s 7 → place_passes s 7 (finding_of s 7) ≡ false
  unfolding place_passes figure_passes finding_of
  no_7 run = total_there (square_of (figures_of s)) (figures_of s).k (triangle.totals_no (square_of (figures_of s)) (figures_of s).k (said.totals_no year s run))

  no_8 : Run year s 8 → place_passes s 8 (finding_of s 8) ≡ false
  unfolding place_passes figure_passes finding_of
  no_8 run = (triangle.rest_no (square_of (figures_of s)) (figures_of s).k (said.rests_no year s run)).0

  no_9 : Run year s 9 → place_passes s 9 (finding_of s 9) ≡ false
  unfolding place_passes figure_passes finding_of
  no_9 run = (running.running_no (square_of (figures_of s)) (figures_of s).k (said.running_no year s run)).0

  no_10 : Run year s 10 → place_passes s 10 (finding_of s 10) ≡ false
  unfolding place_passes figure_passes finding_of
  no_10 run = (level.level_no (square_of (figures_of s)) (figures_of s).k (said.levels_no year s run)).0

  no_18 : Run year s 18 → place_passes s 18 (finding_of s 18) ≡ false
  unfolding place_passes figure_passes
  no_18 run = said.tail_no year s run

  no_19 : Run year s 19 → place_passes s 19 (finding_of s 19) ≡ false
  unfolding place_passes figure_passes finding_of tail_average_finding
  no_19 run = tail.over_no (figures_of s) (said.tails_no year s run)

  no_11 : Run year s 11 → place_passes s 11 (finding_of s 11) ≡ false
  unfolding place_passes figure_passes finding_of ultimate_finding
  no_11 run = over.over_no (figures_of s) (said.ultimates_no year s run)

  no_12 : Run year s 12 → place_passes s 12 (finding_of s 12) ≡ false
  unfolding place_passes figure_passes
  no_12 run = said.ratio_no year s run

  no_15 : Run year s 15 → place_passes s 15 (finding_of s 15) ≡ false
  unfolding place_passes figure_passes
  no_15 run = (latest_refused year s run).1

  no_16 : Run year s 16 → place_passes s 16 (finding_of s 16) ≡ false
  unfolding place_passes figure_passes
  no_16 run = (divisor_refused year s run).1

  no_17 : Run year s 17 → place_passes s 17 (finding_of s 17) ≡ false
  unfolding place_passes figure_passes
  no_17 run = (corrected_refused year s run).1

  no_14 : Run year s 14 → place_passes s 14 (finding_of s 14) ≡ false
  unfolding place_passes figure_passes finding_of completed_finding cell_finding
  no_14 run =
      let g = figures_of s in
      let i = first_row_over g.k (paid_in g) (development_in g) in
      let t = years_within g.k (paid_in g) (development_in g) i in
      let no = said.completed_no year s run in
      let e : g.k - i + t + 1 - (g.k - i) ≡ suc t = omega (arith, add-one t) in
      rw e (ladder.named_no g.k (paid_in g) (development_in g) no)

  -- whatever number from 1 on the run answers, at the place that is found its question says no
  pub found_no : Fit 8 s → (n : ℕ) → 1 ≤ n → Run year s n → place_passes s n (finding_of s n) ≡ false
  found_no bytes =
      by_number year s (λ n. place_passes s n (finding_of s n) ≡ false) bytes no_1 no_2 (no_4 bytes) no_5 no_6 no_13 no_7 no_8 no_9 no_10 no_18 no_19 no_11 no_12 no_15 no_16 no_17 no_14
