-- Each row lies within the record (within) and is tested by its range (places_found); the first row out of range ends the reading (not_read). Assumes nothing.
use Rattle.std.proofs.Common.{Fits, w8}
use borrow.Author.Rules.{rules}
use borrow.Author.Tests.{eq-eqb, ne_eqb}
use native.Mathlib.Omega.{arith}
use mathlib.Core.Path.{◌≡◌, sym, ap, ◌∙◌}
use mathlib.Core.Bool.{Bool, true, false}
use mathlib.Core.List.{List, map}
use Prim.Native.Nat.{ℕ, suc, ◌+◌}
use lib.Dec.{eqb}
use lib.ListN.{get_or, take}
use lib.Seq.{sets}
use Rattle.rules.specs.Lists.{total, every, between}
use Rattle.rules.specs.Questions.{first_no}
use Rattle.rules.specs.Record.{million, increment, value_of}
use Rattle.rules.specs.Reading.{opening_questions, shares_sum_of}
use Rattle.packing.specs.Field.{row_at}
use Rattle.reading.specs.Reading.{row_read}
use Rattle.opening.proofs.Opened.{WholeRecord, whole_record, opening_yes, years_known_lem}
use Rattle.reading.proofs.Ranges.{fits, Passed, Tested, passed_more, passed_first, not_read, in_ranges_lem, out_of_range, within, PlacesFound, places_found}
use Rattle.reading.proofs.ReadAnswers.{answer_4, answer_5, answer_0, one_in, one_out, row_stored, stored_most, sum_at_lem}
use Rattle.reading.proofs.read.Goals as goal
use Rattle.reading.proofs.read.Goals.{Else-not-fill_row-3, Else-tail-gt-MOST_AMOUNT, After-sum_of}

-- the record has passed questions 1 and 2
whole : (s : List ℕ) → ((i : ℕ) → Fits w8 (get_or s i 0)) → first_no (opening_questions s) ≡ 0 → WholeRecord s
whole s small e = whole_record s (λ i. omega (arith, small i)) e

-- a row whose test the code has made: it is in range after rows in range, or it is not
module _ {s : List ℕ} {i : ℕ} {ok : ℕ → Bool} {row : List ℕ} (t : Tested s i ok row) {b : Bool} (e : b ≡ every ok row) where
  yes : Passed s i → b ≡ true → Passed s (suc i)
  yes p y = passed_more s i p (t.same ∙ sym e ∙ y)

  no : b ≡ false → fits s i ≡ false
  no n = t.same ∙ sym e ∙ n

-- the first four rows are in range, and they are in their arrays
four : (c : Else-not-fill_row-3) → WholeRecord c.args.s.now → PlacesFound c.args.s.now c.last_year_of-k.result c.places_of-at.result
    → Passed c.args.s.now 5
    × ((c.fill_row.new.row ≡ sets c.args.exposures.now 0 (row_read c.args.s.now 1))
    × ((c.fill_increments.new.amounts ≡ sets c.args.increments.now 0 (map (value_of increment) (row_read c.args.s.now 2)))
    × ((c.fill_row-2.new.row ≡ sets c.args.indices.now 0 (row_read c.args.s.now 3))
    × (c.fill_row-3.new.row ≡ sets c.args.reporting.now 0 (row_read c.args.s.now 4)))))
four c w f =
    let p1 = passed_first c.args.s.now w in
    let p2 = yes f.exposures c.fill_row.ensures.0 p1 c.if-not-fill_row.false in
    let p3 = yes f.increments c.fill_increments.ensures.0 p2 c.if-not-fill_increments.false in
    let p4 = yes f.indices c.fill_row-2.ensures.0 p3 c.if-not-fill_row-2.false in (
      yes f.reporting c.fill_row-3.ensures.0 p4 c.if-not-fill_row-3.false,
      (
        rw (f.exposures.read p1) c.fill_row.ensures.1,
        (rw (f.increments.read p2) c.fill_increments.ensures.1, (rw (f.indices.read p3) c.fill_row-2.ensures.1, rw (f.reporting.read p4) c.fill_row-3.ensures.1)),
      ),
    )

pub last_year_of-k-requires : goal.last_year_of-k-requires
last_year_of-k-requires c = (years_known_lem c.args.s.now (opening_yes c.args.s.now c.requires).0).0

pub fill_row-requires : goal.fill_row-requires
fill_row-requires c = let rows = within (whole c.args.s.now c.type_inv.s c.requires) c.last_year_of-k.result c.places_of-at.result c.last_year_of-k.ensures.0 c.places_of-at.ensures in search rules

pub returns-then-not-fill_row : goal.returns-then-not-fill_row
returns-then-not-fill_row c =
    let s = c.args.s.now in
    let w = whole s c.type_inv.s c.requires in
    let f = places_found w c.last_year_of-k.result c.places_of-at.result c.last_year_of-k.ensures.0 c.places_of-at.ensures in
    let out = no f.exposures c.fill_row.ensures.0 c.if-not-fill_row.true in (
      answer_4 s (out_of_range s w 1 (omega arith) out),
      (
        rw (not_read s 5 1 (omega arith) out),
        (rw (f.exposures.read (passed_first s w)) c.fill_row.ensures.1, (rw (not_read s 2 1 (omega arith) out), (rw (not_read s 3 1 (omega arith) out), (rw (not_read s 4 1 (omega arith) out), (rw (not_read s 6 1 (omega arith) out), rw (not_read s 7 1 (omega arith) out)))))),
      ),
    )

pub fill_increments-requires : goal.fill_increments-requires
fill_increments-requires c = let rows = within (whole c.args.s.now c.type_inv.s c.requires) c.last_year_of-k.result c.places_of-at.result c.last_year_of-k.ensures.0 c.places_of-at.ensures in search rules

pub returns-then-not-fill_increments : goal.returns-then-not-fill_increments
returns-then-not-fill_increments c =
    let s = c.args.s.now in
    let w = whole s c.type_inv.s c.requires in
    let f = places_found w c.last_year_of-k.result c.places_of-at.result c.last_year_of-k.ensures.0 c.places_of-at.ensures in
    let p1 = passed_first s w in
    let p2 = yes f.exposures c.fill_row.ensures.0 p1 c.if-not-fill_row.false in
    let out = no f.increments c.fill_increments.ensures.0 c.if-not-fill_increments.true in (
      answer_4 s (out_of_range s w 2 (omega arith) out),
      (
        rw (not_read s 5 2 (omega arith) out),
        (rw (f.exposures.read p1) c.fill_row.ensures.1, (rw (f.increments.read p2) c.fill_increments.ensures.1, (rw (not_read s 3 2 (omega arith) out), (rw (not_read s 4 2 (omega arith) out), (rw (not_read s 6 2 (omega arith) out), rw (not_read s 7 2 (omega arith) out)))))),
      ),
    )

pub fill_row-requires-2 : goal.fill_row-requires-2
fill_row-requires-2 c = let rows = within (whole c.args.s.now c.type_inv.s c.requires) c.last_year_of-k.result c.places_of-at.result c.last_year_of-k.ensures.0 c.places_of-at.ensures in search rules

pub returns-then-not-fill_row-2 : goal.returns-then-not-fill_row-2
returns-then-not-fill_row-2 c =
    let s = c.args.s.now in
    let w = whole s c.type_inv.s c.requires in
    let f = places_found w c.last_year_of-k.result c.places_of-at.result c.last_year_of-k.ensures.0 c.places_of-at.ensures in
    let p1 = passed_first s w in
    let p2 = yes f.exposures c.fill_row.ensures.0 p1 c.if-not-fill_row.false in
    let p3 = yes f.increments c.fill_increments.ensures.0 p2 c.if-not-fill_increments.false in
    let out = no f.indices c.fill_row-2.ensures.0 c.if-not-fill_row-2.true in (
      answer_4 s (out_of_range s w 3 (omega arith) out),
      (
        rw (not_read s 5 3 (omega arith) out),
        (
          rw (f.exposures.read p1) c.fill_row.ensures.1,
          (rw (f.increments.read p2) c.fill_increments.ensures.1, (rw (f.indices.read p3) c.fill_row-2.ensures.1, (rw (not_read s 4 3 (omega arith) out), (rw (not_read s 6 3 (omega arith) out), rw (not_read s 7 3 (omega arith) out))))),
        ),
      ),
    )

pub fill_row-requires-3 : goal.fill_row-requires-3
fill_row-requires-3 c = let rows = within (whole c.args.s.now c.type_inv.s c.requires) c.last_year_of-k.result c.places_of-at.result c.last_year_of-k.ensures.0 c.places_of-at.ensures in search rules

pub returns-then-not-fill_row-3 : goal.returns-then-not-fill_row-3
returns-then-not-fill_row-3 c =
    let s = c.args.s.now in
    let w = whole s c.type_inv.s c.requires in
    let f = places_found w c.last_year_of-k.result c.places_of-at.result c.last_year_of-k.ensures.0 c.places_of-at.ensures in
    let p1 = passed_first s w in
    let p2 = yes f.exposures c.fill_row.ensures.0 p1 c.if-not-fill_row.false in
    let p3 = yes f.increments c.fill_increments.ensures.0 p2 c.if-not-fill_increments.false in
    let p4 = yes f.indices c.fill_row-2.ensures.0 p3 c.if-not-fill_row-2.false in
    let out = no f.reporting c.fill_row-3.ensures.0 c.if-not-fill_row-3.true in (
      answer_4 s (out_of_range s w 4 (omega arith) out),
      (
        rw (not_read s 5 4 (omega arith) out),
        (
          rw (f.exposures.read p1) c.fill_row.ensures.1,
          (
            rw (f.increments.read p2) c.fill_increments.ensures.1,
            (rw (f.indices.read p3) c.fill_row-2.ensures.1, (rw (f.reporting.read p4) c.fill_row-3.ensures.1, (rw (not_read s 6 4 (omega arith) out), rw (not_read s 7 4 (omega arith) out)))),
          ),
        ),
      ),
    )

pub field-weight-requires : goal.field-weight-requires
field-weight-requires c = let rows = within (whole c.args.s.now c.type_inv.s c.requires) c.last_year_of-k.result c.places_of-at.result c.last_year_of-k.ensures.0 c.places_of-at.ensures in search rules

pub returns-then-weight-gt-MILLION : goal.returns-then-weight-gt-MILLION
returns-then-weight-gt-MILLION c =
    let s = c.args.s.now in
    let w = whole s c.type_inv.s c.requires in
    let f = places_found w c.last_year_of-k.result c.places_of-at.result c.last_year_of-k.ensures.0 c.places_of-at.ensures in
    let r = four (goal.at.returns-then-weight-gt-MILLION c).Else-not-fill_row-3 w f in
    let weight = one_out c.places_of-at.result.weight 20 f.weight r.0 c.field-weight.ensures c.if-weight-gt-MILLION.true in
    let out = weight.0 in (
      answer_4 s (out_of_range s w 5 (omega arith) out),
      (weight.1, (r.1.0, (r.1.1.0, (r.1.1.1.0, (r.1.1.1.1, (rw (not_read s 6 5 (omega arith) out), rw (not_read s 7 5 (omega arith) out))))))),
    )

pub fill_row-requires-4 : goal.fill_row-requires-4
fill_row-requires-4 c = let rows = within (whole c.args.s.now c.type_inv.s c.requires) c.last_year_of-k.result c.places_of-at.result c.last_year_of-k.ensures.0 c.places_of-at.ensures in search rules

pub returns-then-not-fill_row-4 : goal.returns-then-not-fill_row-4
returns-then-not-fill_row-4 c =
    let s = c.args.s.now in
    let w = whole s c.type_inv.s c.requires in
    let f = places_found w c.last_year_of-k.result c.places_of-at.result c.last_year_of-k.ensures.0 c.places_of-at.ensures in
    let r = four (goal.at.returns-then-not-fill_row-4 c).Else-not-fill_row-3 w f in
    let weight = one_in c.places_of-at.result.weight 20 f.weight r.0 c.field-weight.ensures c.if-weight-gt-MILLION.false in
    let p6 = passed_more s 5 r.0 weight.0 in
    let out = no f.ulae c.fill_row-4.ensures.0 c.if-not-fill_row-4.true in (
      answer_4 s (out_of_range s w 6 (omega arith) out),
      (weight.1, (r.1.0, (r.1.1.0, (r.1.1.1.0, (r.1.1.1.1, (rw (f.ulae.read p6) c.fill_row-4.ensures.1, rw (not_read s 7 6 (omega arith) out))))))),
    )

pub field-tail-requires : goal.field-tail-requires
field-tail-requires c = let rows = within (whole c.args.s.now c.type_inv.s c.requires) c.last_year_of-k.result c.places_of-at.result c.last_year_of-k.ensures.0 c.places_of-at.ensures in search rules

pub returns-then-tail-gt-MOST_AMOUNT : goal.returns-then-tail-gt-MOST_AMOUNT
returns-then-tail-gt-MOST_AMOUNT c =
    let s = c.args.s.now in
    let w = whole s c.type_inv.s c.requires in
    let f = places_found w c.last_year_of-k.result c.places_of-at.result c.last_year_of-k.ensures.0 c.places_of-at.ensures in
    let r = four (goal.at.returns-then-tail-gt-MOST_AMOUNT c).Else-not-fill_row-3 w f in
    let weight = one_in c.places_of-at.result.weight 20 f.weight r.0 c.field-weight.ensures c.if-weight-gt-MILLION.false in
    let p6 = passed_more s 5 r.0 weight.0 in
    let p7 = yes f.ulae c.fill_row-4.ensures.0 p6 c.if-not-fill_row-4.false in
    let tail = one_out c.places_of-at.result.tail 34 f.tail p7 c.field-tail.ensures c.if-tail-gt-MOST_AMOUNT.true in (
      answer_4 s (out_of_range s w 7 (omega arith) tail.0),
      (weight.1, (r.1.0, (r.1.1.0, (r.1.1.1.0, (r.1.1.1.1, (rw (f.ulae.read p6) c.fill_row-4.ensures.1, tail.1)))))),
    )

-- the reporting shares are in range, and they are in their array
in_range_lem : (c : Else-not-fill_row-3) → every (between 0 million) (row_at c.args.s.now c.places_of-at.result.reporting 20 (c.last_year_of-k.result + 1)) ≡ true
in_range_lem c = sym c.fill_row-3.ensures.0 ∙ c.if-not-fill_row-3.false

shares : (c : Else-not-fill_row-3) → take (c.last_year_of-k.result + 1) c.fill_row-3.new.row ≡ row_at c.args.s.now c.places_of-at.result.reporting 20 (c.last_year_of-k.result + 1)
shares c =
    row_stored c.args.s.now c.places_of-at.result.reporting 20 (c.last_year_of-k.result + 1) 0 million c.args.reporting.now c.fill_row-3.new.row
    c.fill_row-3.ensures.1 (omega (arith, c.fill_row-3.array_long, c.last_year_of-k.ensures.1)) (in_range_lem c)

pub sum_of-requires : goal.sum_of-requires
sum_of-requires c =
    let e = (goal.at.sum_of-requires c).Else-not-fill_row-3 in
    let few = c.last_year_of-k.ensures.1 in (
      omega (arith, c.fill_row-3.array_long),
      (
        omega arith,
        λ i h. omega (arith, stored_most 0 million (c.last_year_of-k.result + 1) c.fill_row-3.new.row (row_at c.args.s.now c.places_of-at.result.reporting 20 (c.last_year_of-k.result + 1)) (shares e) (in_range_lem e) i h),
      ),
    )

-- the last three rows are in range too, and what is read of them is in its place
three : (c : Else-tail-gt-MOST_AMOUNT) → PlacesFound c.args.s.now c.last_year_of-k.result c.places_of-at.result → Passed c.args.s.now 5
    → Passed c.args.s.now 8
    × ((c.field-weight.result ≡ get_or (row_read c.args.s.now 5) 0 0)
    × ((c.fill_row-4.new.row ≡ sets c.args.ulae.now 0 (row_read c.args.s.now 6))
    × (c.field-tail.result ≡ get_or (row_read c.args.s.now 7) 0 0)))
three c f p5 =
    let s = c.args.s.now in
    let weight = one_in c.places_of-at.result.weight 20 f.weight p5 c.field-weight.ensures c.if-weight-gt-MILLION.false in
    let p6 = passed_more s 5 p5 weight.0 in
    let p7 = yes f.ulae c.fill_row-4.ensures.0 p6 c.if-not-fill_row-4.false in
    let tail = one_in c.places_of-at.result.tail 34 f.tail p7 c.field-tail.ensures c.if-tail-gt-MOST_AMOUNT.false in
    (passed_more s 7 p7 tail.0, (weight.1, (rw (f.ulae.read p6) c.fill_row-4.ensures.1, tail.1)))

-- their sum, where they are in their array
sum-asked : (c : After-sum_of) → WholeRecord c.args.s.now → take (c.last_year_of-k.result + 1) c.fill_row-3.new.row ≡ row_at c.args.s.now c.places_of-at.result.reporting 20 (c.last_year_of-k.result + 1)
    → shares_sum_of c.args.s.now ≡ eqb c.sum_of.result million
sum-asked c w shares =
    sum_at_lem w c.last_year_of-k.result c.places_of-at.result c.last_year_of-k.ensures.0 c.places_of-at.ensures
    ∙ ap (λ (n : ℕ). eqb n million) (ap total (sym shares) ∙ sym c.sum_of.ensures)

pub returns-then-sum_of-ne-MILLION : goal.returns-then-sum_of-ne-MILLION
returns-then-sum_of-ne-MILLION c =
    let s = c.args.s.now in
    let w = whole s c.type_inv.s c.requires in
    let f = places_found w c.last_year_of-k.result c.places_of-at.result c.last_year_of-k.ensures.0 c.places_of-at.ensures in
    let e = goal.at.returns-then-sum_of-ne-MILLION c in
    let r = four e.Else-not-fill_row-3 w f in
    let a = three e.Else-tail-gt-MOST_AMOUNT f r.0 in
    let asked = sum-asked e.After-sum_of w (shares e.Else-not-fill_row-3) in
    (answer_5 s (in_ranges_lem s w a.0) (asked ∙ ne_eqb c.sum_of.result million c.if-sum_of-ne-MILLION.true), (a.1.0, (r.1.0, (r.1.1.0, (r.1.1.1.0, (r.1.1.1.1, a.1.1))))))

pub returns : goal.returns
returns c =
    let s = c.args.s.now in
    let w = whole s c.type_inv.s c.requires in
    let f = places_found w c.last_year_of-k.result c.places_of-at.result c.last_year_of-k.ensures.0 c.places_of-at.ensures in
    let e = goal.at.returns c in
    let r = four e.Else-not-fill_row-3 w f in
    let a = three e.Else-tail-gt-MOST_AMOUNT f r.0 in
    let asked = sum-asked e.After-sum_of w (shares e.Else-not-fill_row-3) in
    (answer_0 s (in_ranges_lem s w a.0) (asked ∙ eq-eqb c.sum_of.result million c.if-sum_of-ne-MILLION.false), (a.1.0, (r.1.0, (r.1.1.0, (r.1.1.1.0, (r.1.1.1.1, a.1.1))))))
