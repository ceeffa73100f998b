-- The place that is found is the first, in the order of the question, at which it says no. Assumes nothing.
use Prim.Native.Nat.{ℕ, suc, ◌+◌, ◌-◌, ◌≤◌}
use native.Mathlib.Omega.{arith}
use native.Mathlib.Numerals.{add-one}
use borrow.Author.Tests.{ltb-true, ltb-false}
use mathlib.Core.Path.{◌≡◌, refl}
use mathlib.Core.Bool.{Bool, true, false, cond}
use mathlib.Core.List.{List}
use lib.Dec.{leb, ltb}
use lib.IntN.{ℤ, pos}
use lib.Signed.{le_z}
use Rattle.rules.specs.Lists.{below, every}
use Rattle.rules.specs.Packing.{Fit}
use Rattle.rules.specs.Record.{last_year_of, figures_of}
use Rattle.rules.specs.Triangle.{row_passes, column_total, diagonal_total, all_total, most_cumulative}
use Rattle.rules.specs.Separation.{billion, running_of, level_of}
use Rattle.rules.specs.Tail.{tail_average, most_tail_average}
use Rattle.rules.specs.Completion.{ultimate, most_ultimate}
use Rattle.rules.specs.Ladder.{developed, base, factor_passes, completed, completed_row}
use Rattle.rules.specs.Results.{square_of, first_tail_average_of, paid_in, provisions_in, development_in}
use Rattle.entries.specs.Leading.{leading}
use Rattle.reasons.specs.Reasons.{first_below, first_refused}
use Rattle.reasons.proofs.Counted.{counted, all_pass}
use Rattle.finding.specs.declared.Finding.{Finding}
use Rattle.finding.specs.Places.{nowhere, development_year, payment_year, field, found}
use Rattle.field_spots.specs.Spots.{spot_of}
use Rattle.field_findings.specs.Fields.{first_row, first_field_of, finding_at, field_finding}
use Rattle.field_findings.proofs.Named.{field_no}
use Rattle.cumulative_findings.specs.CumulativeFindings.{cell_passes, refused_row, refused_column, cumulative_finding}
use Rattle.development_findings.specs.DevelopmentFindings.{development_found, development_finding}
use Rattle.triangle_findings.specs.TriangleFindings.{totals_found, totals_finding, rest_passes, refused_rest, rest_found, rest_finding}
use Rattle.factor_findings.specs.FactorFindings.{refused_running, running_finding, refused_level, level_found, level_finding}
use Rattle.tail_findings.specs.TailFindings.{first_average_over, tail_average_finding}
use Rattle.reserve_findings.specs.ReserveFindings.{first_ultimate_over, ultimate_finding}
use Rattle.ladder_findings.specs.LadderFindings.{first_row_over, years_within, cell_finding, completed_finding}
use Rattle.findings.specs.Findings.{finding_of}
use Rattle.findings.specs.PlacePasses.{field_index, TotalFirst, FigureFirst, PlaceFirst}
use Rattle.findings.proofs.Numbers.{Run, by_number}
use Rattle.findings.proofs.No.{index_is, field_cell}

-- a total: no column before is below 0, and no diagonal before where none is a column's
none_below : (v : ℕ → ℤ) (k : ℕ) → ltb (first_below v k) (k + 1) ≡ false → every (λ i. le_z (pos 0) (v i)) (below (k + 1)) ≡ true
unfolding first_below
none_below v k e =
    let test : ℕ → Bool = λ i. le_z (pos 0) (v i) in
    let l = ltb-false (first_below v k) (k + 1) e in
    all_pass test (k + 1) (omega (arith, (counted test (k + 1)).most))

before_first : (v : ℕ → ℤ) (k : ℕ) → every (λ i. le_z (pos 0) (v i)) (below (first_below v k)) ≡ true
unfolding first_below
before_first v k = (counted (λ i. le_z (pos 0) (v i)) (k + 1)).before

total_first : (q : List (List ℤ)) (k : ℕ) → TotalFirst q k (totals_finding q k)
unfolding totals_finding totals_found
total_first q k = go (ltb (first_below (column_total q) k) (k + 1)) refl (ltb (first_below (diagonal_total q) k) (k + 1)) refl
  where
    here : Bool → Bool → Finding
    here a b =
        cond a (found development_year 0 (first_below (column_total q) k) (column_total q (first_below (column_total q) k)) (pos 0) (pos 0))
        (cond b (found payment_year (first_below (diagonal_total q) k) 0 (diagonal_total q (first_below (diagonal_total q) k)) (pos 0) (pos 0)) (found nowhere 0 0 (all_total q) (pos 0) (pos 0)))

    go : (a : Bool) → ltb (first_below (column_total q) k) (k + 1) ≡ a → (b : Bool) → ltb (first_below (diagonal_total q) k) (k + 1) ≡ b → TotalFirst q k (here a b)
    go true e b f = before_first (column_total q) k
    go false e true f = (none_below (column_total q) k e, before_first (diagonal_total q) k)
    go false e false f = (none_below (column_total q) k e, none_below (diagonal_total q) k f)

module _ (year : ℕ) (s : List ℕ) where
  first_4 : Fit 8 s → Run year s 4 → PlaceFirst s 4 (finding_of s 4)
  unfolding PlaceFirst finding_of field_finding finding_at
  first_4 bytes run =
      let h = field_no year s bytes run in
      let r = first_row s in
      let m = first_field_of s r in
      let e : field + r - field ≡ r = omega arith in
      let i = index_is (last_year_of s) r m (λ two. field_cell s h two) in
      rw (e, i) (h.rows_before, h.fields_before)

  first_6 : Run year s 6 → PlaceFirst s 6 (finding_of s 6)
  unfolding PlaceFirst FigureFirst finding_of cumulative_finding refused_row refused_column
  first_6 run =
      let k = (figures_of s).k in
      let p = (figures_of s).increments in
      let i = refused_row k p in
      ((counted (row_passes k p) (k + 1)).before, (counted (cell_passes k p i) (k + 1 - i)).before)

  first_13 : Run year s 13 → PlaceFirst s 13 (finding_of s 13)
  unfolding PlaceFirst FigureFirst finding_of development_finding development_found first_refused
  first_13 run =
      let k = (figures_of s).k in
      let p = (figures_of s).increments in
      (counted (λ h. factor_passes (developed k p h) (base k p h)) k).before

  first_7 : Run year s 7 → PlaceFirst s 7 (finding_of s 7)
  unfolding PlaceFirst FigureFirst finding_of
  first_7 run = total_first (square_of (figures_of s)) (figures_of s).k

  first_8 : Run year s 8 → PlaceFirst s 8 (finding_of s 8)
  unfolding PlaceFirst FigureFirst finding_of rest_finding rest_found refused_rest
  first_8 run =
      let test : ℕ → Bool = λ m. rest_passes (square_of (figures_of s)) (m + 1) in
      let e : leading test (figures_of s).k + 1 - 1 ≡ leading test (figures_of s).k = omega arith in
      rw e (counted test (figures_of s).k).before

  first_9 : Run year s 9 → PlaceFirst s 9 (finding_of s 9)
  unfolding PlaceFirst FigureFirst finding_of running_finding refused_running
  first_9 run = (counted (λ h. leb 1 (running_of (square_of (figures_of s)) (figures_of s).k h)) ((figures_of s).k + 1)).before

  first_10 : Run year s 10 → PlaceFirst s 10 (finding_of s 10)
  unfolding PlaceFirst FigureFirst finding_of level_finding level_found refused_level
  first_10 run = (counted (λ h. leb (level_of (square_of (figures_of s)) (figures_of s).k h) billion) ((figures_of s).k + 1)).before

  first_19 : Run year s 19 → PlaceFirst s 19 (finding_of s 19)
  unfolding PlaceFirst FigureFirst finding_of tail_average_finding first_average_over
  first_19 run =
      let g = figures_of s in
      (counted (λ i. leb (tail_average (first_tail_average_of g) g.indices i) most_tail_average) (g.k + 1)).before

  first_11 : Run year s 11 → PlaceFirst s 11 (finding_of s 11)
  unfolding PlaceFirst FigureFirst finding_of ultimate_finding first_ultimate_over
  first_11 run =
      let g = figures_of s in
      (counted (λ i. leb (ultimate (paid_in g) (provisions_in g) i) most_ultimate) (g.k + 1)).before

  first_14 : Run year s 14 → PlaceFirst s 14 (finding_of s 14)
  unfolding PlaceFirst FigureFirst finding_of completed_finding cell_finding first_row_over years_within
  first_14 run =
      let g = figures_of s in
      let k = g.k in
      let i = first_row_over k (paid_in g) (development_in g) in
      let t = years_within k (paid_in g) (development_in g) i in
      let e : k - i + t + 1 - (k - i) - 1 ≡ t = omega arith in
      ((counted (λ i. every (λ x. leb x most_cumulative) (completed_row k (paid_in g) (development_in g) i)) (k + 1)).before, rw e (counted (λ t. leb (completed k (paid_in g) (development_in g) i (suc t)) most_cumulative) i).before)

  first_1 : Run year s 1 → PlaceFirst s 1 (finding_of s 1)
  unfolding PlaceFirst FigureFirst
  first_1 run = refl

  first_2 : Run year s 2 → PlaceFirst s 2 (finding_of s 2)
  unfolding PlaceFirst FigureFirst
  first_2 run = refl

  first_5 : Run year s 5 → PlaceFirst s 5 (finding_of s 5)
  unfolding PlaceFirst FigureFirst
  first_5 run = refl

  first_18 : Run year s 18 → PlaceFirst s 18 (finding_of s 18)
  unfolding PlaceFirst FigureFirst
  first_18 run = refl

  first_12 : Run year s 12 → PlaceFirst s 12 (finding_of s 12)
  unfolding PlaceFirst FigureFirst
  first_12 run = refl

  first_15 : Run year s 15 → PlaceFirst s 15 (finding_of s 15)
  unfolding PlaceFirst FigureFirst
  first_15 run = refl

  first_16 : Run year s 16 → PlaceFirst s 16 (finding_of s 16)
  unfolding PlaceFirst FigureFirst
  first_16 run = refl

  first_17 : Run year s 17 → PlaceFirst s 17 (finding_of s 17)
  unfolding PlaceFirst FigureFirst
  first_17 run = refl

  -- whatever number from 1 on the run answers, its question says yes at every place before the one that is found
  pub found_first : Fit 8 s → (n : ℕ) → 1 ≤ n → Run year s n → PlaceFirst s n (finding_of s n)
  found_first bytes =
      by_number year s (λ n. PlaceFirst s n (finding_of s n)) bytes first_1 first_2 (first_4 bytes) first_5 first_6 first_13 first_7 first_8 first_9 first_10 first_18 first_19 first_11 first_12 first_15 first_16 first_17 first_14
