-- The fields of a record may stand in the lines of its sheet: the range of a line is that of its fields, and no field reaches the ceiling.
-- Assumes nothing.
use mathlib.Core.Path.{◌≡◌, refl, sym, ap, ◌∙◌}
use mathlib.Core.Bool.{Bool, true, false, cond, ◌&&◌, ◌||◌, false≢true}
use mathlib.Core.List.{List, [], ◌∷◌, ◌++◌, map, map-append, append_assoc, append-nil}
use Prim.Native.Nat.{ℕ, zero, suc, ◌+◌, ◌-◌, ◌≤◌, ◌<◌}
use native.Mathlib.Omega.{arith}
use borrow.Author.Tests.{leb-true, le-leb}
use lib.Dec.{eqb, leb, lit<}
use lib.IntN.{ℤ, pos, negsuc, neg_ℤ, nat_abs}
use lib.ListN.{replicate, replicate-append-replicate}
use lib.Signed.{le_z}
use Rattle.rules.specs.Lists.{up_to}
use Rattle.rules.specs.Triangle.{row_start}
use Rattle.rules.specs.Record.{Kind, layout, kinds_of, in_range, every_field, sign_of, cells, million, most_amount, most_index}
use Rattle.laws.proofs.Lists.{both_left, both_right}
use Rattle.laws.proofs.TriangleRows.{rows_all}
use Rattle.record.proofs.Fields.{RecordFields}
use Rattle.scanning.specs.Numbers.{ceiling}
use Rattle.sheet.specs.declared.Due.{Due}
use Rattle.sheet.specs.Table.{line_count, due_at, due_lines}
use Rattle.sheet.proofs.Table.{due_paid, due_indices, due_reporting, due_weight, due_ulae, due_tail}
use Rattle.sheet_record.proofs.Sheets.{due_ranges, EachWithin}

-- the range of a kind of field
abbrev range_of : Kind → ℤ × ℤ
range_of κ = (cond κ.signed (neg_ℤ (pos κ.most)) (pos κ.least), pos κ.most)

-- the ranges of lines and further lines
ranges_more : (ds : List Due) (d : Due) → due_ranges (ds ++ (d ∷ [])) ≡ due_ranges ds ++ replicate d.count (d.least, d.most)
ranges_more [] d = append-nil (replicate d.count (d.least, d.most))
ranges_more (e ∷ ds) d = rw (ranges_more ds d) (sym (append_assoc (replicate e.count (e.least, e.most)) (due_ranges ds) _))

abbrev paid_range : ℤ × ℤ
paid_range = (neg_ℤ (pos most_amount), pos most_amount)

abbrev first : ℕ → List (ℤ × ℤ)
first k = (pos 1, pos 15) ∷ replicate (k + 1) (pos 1, pos million)

-- up to the increments of an origin year
paid_ranges : (k i : ℕ) → i ≤ k + 1 → due_ranges (up_to (due_at k) (suc (suc i))) ≡ first k ++ replicate (row_start k i) paid_range
unfolding up_to due_at row_start
paid_ranges k zero h = refl
paid_ranges k (suc i) h =
    ranges_more (up_to (due_at k) (suc (suc i))) (due_at k (suc (suc i)))
    ∙ rw (paid_ranges k i (omega arith), due_paid k i (omega arith))
    (append_assoc (first k) (replicate (row_start k i) paid_range) (replicate (k + 1 - i) paid_range)
    ∙ ap (λ (l : List (ℤ × ℤ)). first k ++ l) (replicate-append-replicate (row_start k i) (k + 1 - i) paid_range))

-- the ranges of the kinds, row by row
abbrev row_ranges : List (ℕ × Kind) → List (ℤ × ℤ)
row_ranges [] = []
row_ranges (r ∷ rs) = replicate r.0 (range_of r.1) ++ row_ranges rs

kinds_ranges : (rs : List (ℕ × Kind)) → map range_of (kinds_of rs) ≡ row_ranges rs
unfolding kinds_of
kinds_ranges [] = refl
kinds_ranges (r ∷ rs) =
    map-append range_of (replicate r.0 r.1) (kinds_of rs) ∙ rw (same r.0 r.1, kinds_ranges rs)
  where
    same : (n : ℕ) (κ : Kind) → map range_of (replicate n κ) ≡ replicate n (range_of κ)
    same zero κ = refl
    same (suc n) κ = ap (λ (l : List (ℤ × ℤ)). range_of κ ∷ l) (same n κ)

regroup : (a b c d e f g : List (ℤ × ℤ)) → (((((a ++ b) ++ c) ++ d) ++ e) ++ f) ++ g ≡ a ++ (b ++ (c ++ (d ++ (e ++ (f ++ g)))))
regroup a b c d e f g = simp append_assoc

-- the range of a line is that of its fields
sheet_ranges : (k : ℕ) → due_ranges (due_lines k) ≡ map range_of (kinds_of (layout k))
unfolding due_lines up_to layout
sheet_ranges k =
    let place : line_count k ≡ suc (suc (suc (suc (suc (suc (suc (k + 1))))))) = omega arith in
    let n : ℕ = suc (suc (k + 1)) in
    rw (
      place,
      ranges_more (up_to (due_at k) (suc (suc (suc (suc n))))) (due_at k (suc (suc (suc (suc n))))),
      ranges_more (up_to (due_at k) (suc (suc (suc n)))) (due_at k (suc (suc (suc n)))),
      ranges_more (up_to (due_at k) (suc (suc n))) (due_at k (suc (suc n))),
      ranges_more (up_to (due_at k) (suc n)) (due_at k (suc n)),
      ranges_more (up_to (due_at k) n) (due_at k n),
      paid_ranges k (k + 1) (omega arith),
      rows_all k,
      due_indices k n (omega arith),
      due_reporting k (suc n) (omega arith),
      due_weight k (suc (suc n)) (omega arith),
      due_ulae k (suc (suc (suc n))) (omega arith),
      due_tail k (suc (suc (suc (suc n)))) (omega arith),
      kinds_ranges (layout k),
    )
    (ap (λ (l : List (ℤ × ℤ)). (pos 1, pos 15) ∷ l)
    (regroup (replicate (k + 1) (pos 1, pos million)) (replicate (cells k) paid_range) (replicate (k + 1) (pos 1, pos most_index)) (replicate (k + 1) (pos 0, pos million))
    ((pos 0, pos million) ∷ []) (replicate (k + 1) (pos 0, pos most_amount)) ((pos 0, pos most_amount) ∷ [])))

-- a field in its range may stand in a line
within : (signed : Bool) (least most : ℕ) (v : ℤ) → (signed || eqb (sign_of v) 0) && (leb least (nat_abs v) && leb (nat_abs v) most) ≡ true
    → le_z (cond signed (neg_ℤ (pos most)) (pos least)) v && le_z v (pos most) ≡ true
within true least zero (pos n) h = rw (le-leb 0 n (omega arith)) (both_right (leb least n) (leb n 0) h)
within true least (suc most) (pos n) h = both_right (leb least n) (leb n (suc most)) h
within true least zero (negsuc n) h = absurd (omega (arith, leb-true (suc n) 0 (both_right (leb least (suc n)) (leb (suc n) 0) h)))
within true least (suc most) (negsuc n) h =
    let e = leb-true (suc n) (suc most) (both_right (leb least (suc n)) (leb (suc n) (suc most)) h) in
    rw (le-leb n most (omega arith))
within false least most (pos n) h = h
within false least most (negsuc n) h = absurd (false≢true h)

-- the sizes of each kind are below the ceiling
abbrev AllSmall : List Kind → Type 0
AllSmall [] = Unit {0}
AllSmall (κ ∷ κs) = (κ.most < ceiling) × AllSmall κs

small_row : (n : ℕ) (κ : Kind) (κs : List Kind) → κ.most < ceiling → AllSmall κs → AllSmall (replicate n κ ++ κs)
small_row zero κ κs h hs = hs
small_row (suc n) κ κs h hs = (h, small_row n κ κs h hs)

spread_small : (rs : List (ℕ × Kind)) → AllSmall (map (λ r. r.1) rs) → AllSmall (kinds_of rs)
unfolding kinds_of
spread_small [] h = tt
spread_small (r ∷ rs) h = small_row r.0 r.1 (kinds_of rs) h.0 (spread_small rs h.1)

layout_small : (k : ℕ) → AllSmall (kinds_of (layout k))
unfolding layout
layout_small k = spread_small (layout k) (lit< tt, (lit< tt, (lit< tt, (lit< tt, (lit< tt, (lit< tt, (lit< tt, (lit< tt, tt))))))))

fields_okay : (κs : List Kind) (vs : List ℤ) → AllSmall κs → every_field in_range κs vs ≡ true → EachWithin (map range_of κs) vs
unfolding every_field in_range
fields_okay [] vs a h = tt
fields_okay (κ ∷ κs) [] a h = absurd (false≢true h)
fields_okay (κ ∷ κs) (v ∷ vs) a h =
    let r = both_left (in_range κ v) (every_field in_range κs vs) h in
    let size = both_right (κ.signed || eqb (sign_of v) 0) (leb κ.least (nat_abs v) && leb (nat_abs v) κ.most) r in
    let most = leb-true (nat_abs v) κ.most (both_right (leb κ.least (nat_abs v)) (leb (nat_abs v) κ.most) size) in (
      record { small = omega (arith, a.0); within = within κ.signed κ.least κ.most v r },
      fields_okay κs vs a.1 (both_right (in_range κ v) (every_field in_range κs vs) h),
    )

-- the fields of a record may stand in the lines of its sheet
pub fields_sound : (k : ℕ) (vs : List ℤ) → RecordFields k vs → EachWithin (due_ranges (due_lines k)) vs
fields_sound k vs f = rw (sheet_ranges k) (fields_okay (kinds_of (layout k)) vs (layout_small k) f.ranges)
