-- The place that is found is one that the question asks about, whose number the run answers. Assumes nothing.
use Prim.Native.Nat.{ℕ, ◌+◌, ◌-◌, ◌≤◌}
use native.Mathlib.Omega.{arith}
use borrow.Author.Tests.{ltb-true}
use mathlib.Core.Path.{◌≡◌, refl}
use mathlib.Core.Bool.{Bool, true, false, cond}
use mathlib.Core.List.{List}
use lib.Dec.{ltb}
use lib.IntN.{ℤ, pos}
use Rattle.rules.specs.Packing.{Fit}
use Rattle.rules.specs.Record.{last_year_of, figures_of}
use Rattle.rules.specs.Triangle.{column_total, diagonal_total, all_total}
use Rattle.rules.specs.Results.{square_of, paid_in, development_in}
use Rattle.reasons.specs.Reasons.{first_below}
use Rattle.finding.specs.declared.Finding.{Finding}
use Rattle.finding.specs.Places.{nowhere, development_year, payment_year, field, found}
use Rattle.outcomes.proofs.Said as said
use Rattle.record_findings.specs.RecordFindings.{given_finding, length_finding, shares_finding}
use Rattle.field_spots.specs.Spots.{spot_of}
use Rattle.field_findings.specs.Fields.{first_row, first_field_of, finding_at, field_finding}
use Rattle.field_findings.proofs.Named.{FieldFound, field_no}
use Rattle.cumulative_findings.specs.CumulativeFindings.{cumulative_finding}
use Rattle.development_findings.specs.DevelopmentFindings.{development_found, development_finding}
use Rattle.triangle_findings.specs.TriangleFindings.{totals_found, totals_finding, rest_found, rest_finding}
use Rattle.cumulative_findings.proofs.Cumulatives as cumulative
use Rattle.development_findings.proofs.Development as development
use Rattle.triangle_findings.proofs.No as triangle
use Rattle.factor_findings.specs.FactorFindings.{running_finding, level_found, level_finding}
use Rattle.factor_findings.proofs.Running as running
use Rattle.factor_findings.proofs.Levels as level
use Rattle.tail_findings.specs.TailFindings.{tail_finding, tail_average_finding}
use Rattle.tail_findings.proofs.Told as tail
use Rattle.reserve_findings.specs.ReserveFindings.{ultimate_finding, ratio_finding, latest_finding}
use Rattle.correction_findings.specs.CorrectionFindings.{divisor_finding, corrected_finding}
use Rattle.reserve_findings.proofs.Over as over
use Rattle.ladder_findings.specs.LadderFindings.{first_row_over, years_within, cell_finding, completed_finding}
use Rattle.ladder_findings.proofs.Within as ladder
use Rattle.findings.specs.Findings.{finding_of}
use Rattle.findings.specs.PlacePasses.{TotalAsked, PlaceAsked}
use Rattle.findings.proofs.Numbers.{Run, by_number}
use Rattle.findings.proofs.No.{index_is, field_cell}

-- a column, a diagonal, or all
total_asked : (q : List (List ℤ)) (k : ℕ) → TotalAsked k (totals_finding q k)
unfolding totals_finding totals_found
total_asked q k = go (ltb (first_below (column_total q) k) (k + 1)) refl (ltb (first_below (diagonal_total q) k) (k + 1)) refl
  where
    here : Bool → Bool → Finding
    here a b =
        cond a (found development_year 0 (first_below (column_total q) k) (column_total q (first_below (column_total q) k)) (pos 0) (pos 0))
        (cond b (found payment_year (first_below (diagonal_total q) k) 0 (diagonal_total q (first_below (diagonal_total q) k)) (pos 0) (pos 0)) (found nowhere 0 0 (all_total q) (pos 0) (pos 0)))

    go : (a : Bool) → ltb (first_below (column_total q) k) (k + 1) ≡ a → (b : Bool) → ltb (first_below (diagonal_total q) k) (k + 1) ≡ b → TotalAsked k (here a b)
    go true e b f = let l = ltb-true (first_below (column_total q) k) (k + 1) e in omega arith
    go false e true f = let l = ltb-true (first_below (diagonal_total q) k) (k + 1) f in omega arith
    go false e false f = refl

-- an increment stands in the triangle
cell_within : (s : List ℕ) → FieldFound s (first_row s) (first_field_of s (first_row s)) → first_row s ≡ 2
    → (spot_of (last_year_of s) (first_row s) (first_field_of s (first_row s))).row + (spot_of (last_year_of s) (first_row s) (first_field_of s (first_row s))).column ≤ last_year_of s
unfolding spot_of
cell_within s h e = let c = field_cell s h e in rw e (rw e at c.column)

module _ (year : ℕ) (s : List ℕ) where
  asked_4 : Fit 8 s → Run year s 4 → PlaceAsked s 4 (finding_of s 4)
  unfolding PlaceAsked finding_of field_finding finding_at
  asked_4 bytes run =
      let h = field_no year s bytes run in
      let r = first_row s in
      let m = first_field_of s r in
      let k = last_year_of s in
      let e : field + r - field ≡ r = omega arith in
      let i = index_is k r m (λ two. field_cell s h two) in
      rw e (record { kind = refl; least = h.least; most = h.few; inside = rw i h.inside; within = cell_within s h })

  asked_6 : Run year s 6 → PlaceAsked s 6 (finding_of s 6)
  unfolding PlaceAsked finding_of figures_of cumulative_finding
  asked_6 run = (refl, (cumulative.cumulative_no (figures_of s).k (figures_of s).increments (said.cumulatives_no year s run)).1)

  asked_13 : Run year s 13 → PlaceAsked s 13 (finding_of s 13)
  unfolding PlaceAsked finding_of figures_of development_finding development_found
  asked_13 run = (refl, (development.development_no (figures_of s).k (figures_of s).increments (said.development_no year s run)).1)

  asked_7 : Run year s 7 → PlaceAsked s 7 (finding_of s 7)
  unfolding PlaceAsked finding_of figures_of
  asked_7 run = total_asked (square_of (figures_of s)) (figures_of s).k

  asked_8 : Run year s 8 → PlaceAsked s 8 (finding_of s 8)
  unfolding PlaceAsked finding_of figures_of rest_finding rest_found
  asked_8 run = (refl, (triangle.rest_no (square_of (figures_of s)) (figures_of s).k (said.rests_no year s run)).1)

  asked_9 : Run year s 9 → PlaceAsked s 9 (finding_of s 9)
  unfolding PlaceAsked finding_of figures_of running_finding
  asked_9 run = (refl, (running.running_no (square_of (figures_of s)) (figures_of s).k (said.running_no year s run)).1)

  asked_10 : Run year s 10 → PlaceAsked s 10 (finding_of s 10)
  unfolding PlaceAsked finding_of figures_of level_finding level_found
  asked_10 run = (refl, (level.level_no (square_of (figures_of s)) (figures_of s).k (said.levels_no year s run)).1)

  asked_18 : Run year s 18 → PlaceAsked s 18 (finding_of s 18)
  unfolding PlaceAsked finding_of tail_finding
  asked_18 run = (refl, refl)

  asked_19 : Run year s 19 → PlaceAsked s 19 (finding_of s 19)
  unfolding PlaceAsked finding_of figures_of tail_average_finding
  asked_19 run = (refl, tail.over_year (figures_of s) (said.tails_no year s run))

  asked_11 : Run year s 11 → PlaceAsked s 11 (finding_of s 11)
  unfolding PlaceAsked finding_of figures_of ultimate_finding
  asked_11 run = (refl, over.over_year (figures_of s) (said.ultimates_no year s run))

  asked_15 : Run year s 15 → PlaceAsked s 15 (finding_of s 15)
  unfolding PlaceAsked finding_of figures_of latest_finding
  asked_15 run = (refl, refl)

  asked_14 : Run year s 14 → PlaceAsked s 14 (finding_of s 14)
  unfolding PlaceAsked finding_of figures_of completed_finding cell_finding
  asked_14 run =
      let g = figures_of s in
      let i = first_row_over g.k (paid_in g) (development_in g) in
      let t = years_within g.k (paid_in g) (development_in g) i in
      let no = said.completed_no year s run in
      let row = ladder.named_row g.k (paid_in g) (development_in g) no in
      let years = ladder.years_within_lem g.k (paid_in g) (development_in g) no in
      (refl, (row, (omega arith, omega arith)))

  -- those that ask about all name no place
  asked_1 : Run year s 1 → PlaceAsked s 1 (finding_of s 1)
  unfolding PlaceAsked finding_of given_finding
  asked_1 run = refl

  asked_2 : Run year s 2 → PlaceAsked s 2 (finding_of s 2)
  unfolding PlaceAsked finding_of length_finding
  asked_2 run = refl

  asked_5 : Run year s 5 → PlaceAsked s 5 (finding_of s 5)
  unfolding PlaceAsked finding_of shares_finding
  asked_5 run = refl

  asked_12 : Run year s 12 → PlaceAsked s 12 (finding_of s 12)
  unfolding PlaceAsked finding_of ratio_finding
  asked_12 run = refl

  asked_16 : Run year s 16 → PlaceAsked s 16 (finding_of s 16)
  unfolding PlaceAsked finding_of divisor_finding
  asked_16 run = refl

  asked_17 : Run year s 17 → PlaceAsked s 17 (finding_of s 17)
  unfolding PlaceAsked finding_of corrected_finding
  asked_17 run = refl

  -- whatever number from 1 on the run answers, its question asks about the place that is found
  pub found_asked : Fit 8 s → (n : ℕ) → 1 ≤ n → Run year s n → PlaceAsked s n (finding_of s n)
  found_asked bytes =
      by_number year s (λ n. PlaceAsked s n (finding_of s n)) bytes asked_1 asked_2 (asked_4 bytes) asked_5 asked_6 asked_13 asked_7 asked_8 asked_9 asked_10 asked_18 asked_19 asked_11 asked_12 asked_15 asked_16 asked_17 asked_14
