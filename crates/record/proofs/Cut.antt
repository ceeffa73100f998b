-- What a writer is given, found among the fields of a record, and as rows of a record: each comes back from the other. Assumes nothing.
use Prim.Native.Nat.{ℕ, zero, suc, ◌+◌, ◌≤◌}
use native.Mathlib.Nat.{suc-ne-zero}
use native.Mathlib.Omega.{arith}
use mathlib.Core.Path.{◌≡◌, refl, sym, ap, ap₂, ◌∙◌}
use mathlib.Core.Bool.{Bool, true, false, cond}
use mathlib.Core.List.{List, [], ◌∷◌, ◌++◌, map}
use lib.IntN.{ℤ, pos, nat_abs}
use lib.ListN.{length, get_or, take, drop, length-append, length-drop, length-map, length-replicate, take-append-drop, get_or-append}
use lib.Seq.{sets, length-take-le, get_or-take, take-append-le, drop-append-le, sets-eq}
use Rattle.rules.specs.Lists.{total, every}
use Rattle.rules.specs.Record.{Figures, figures, Kind, million, layout, kinds_of, section, field_count, byte_count, in_range, exposures_in, increments_in, indices_in, reporting_in, weight_in, ulae_in, tail_in}
use Rattle.rules.specs.Writing.{given_at, given_in, given_fields}
use Rattle.laws.proofs.Lists.{both_left, both_right, sizes_again}
use Rattle.layout.proofs.LayoutSections.{join, Shaped, every_row, length_join, section_join, every_join}
use Rattle.layout.proofs.RecordSizes.{fields_count}
use Rattle.record.proofs.RecordAnswers.{Taken}
use Rattle.record.proofs.Field.{not_below}
use Rattle.record.proofs.Fields.{RecordFields}

-- the lists, the weight and the amount still to be paid among the fields vs of a record of the years 0 to k
abbrev pub cut_by : ℕ → List ℤ → Figures
cut_by k vs = figures k (exposures_in k vs) (increments_in k vs) (indices_in k vs) (reporting_in k vs) (weight_in k vs) (ulae_in k vs) (tail_in k vs)

-- the rows of a list with an entry for each field of a layout
abbrev pub sections_of : {A : Type 0} → List (ℕ × Kind) → List A → List (List A)
sections_of [] xs = []
sections_of (r ∷ rs) xs = take r.0 xs ∷ sections_of rs (drop r.0 xs)

-- the fields of a layout are those of its first row and those of the others
fields_row : (r : ℕ × Kind) (rs : List (ℕ × Kind)) → length (kinds_of (r ∷ rs)) ≡ r.0 + length (kinds_of rs)
unfolding kinds_of
fields_row r rs = rw (length-append, length-replicate)

module _ {A : Type 0} where
  -- the first row has its length, and so have the others together
  sections_fit : (r : ℕ × Kind) (rs : List (ℕ × Kind)) (xs : List A) → length xs ≡ length (kinds_of (r ∷ rs))
      → (length (take r.0 xs) ≡ r.0) × (length (drop r.0 xs) ≡ length (kinds_of rs))
  sections_fit r rs xs e =
      let l = fields_row r rs in
      (length-take-le r.0 xs (omega arith), length-drop r.0 xs ∙ omega arith)

  -- each row has its length
  pub sections_shaped : (rs : List (ℕ × Kind)) (xs : List A) → length xs ≡ length (kinds_of rs) → Shaped rs (sections_of rs xs)
  sections_shaped [] xs e = tt
  sections_shaped (r ∷ rs) xs e =
      let f = sections_fit r rs xs e in
      (f.0, sections_shaped rs (drop r.0 xs) f.1)

  -- one row after another they are the list
  pub join_sections : (rs : List (ℕ × Kind)) (xs : List A) → length xs ≡ length (kinds_of rs) → join (sections_of rs xs) ≡ xs
  unfolding kinds_of
  join_sections [] [] e = refl
  join_sections [] (x ∷ xs) e = absurd (suc-ne-zero (length xs) e)
  join_sections (r ∷ rs) xs e = rw (join_sections rs (drop r.0 xs) (sections_fit r rs xs e).1) (take-append-drop r.0 xs)

  -- entries past the fields are in no row
  section_append : (rs : List (ℕ × Kind)) (i : ℕ) (xs ys : List A) → length xs ≡ length (kinds_of rs) → section rs i (xs ++ ys) ≡ section rs i xs
  unfolding section
  section_append [] i xs ys e = refl
  section_append (r ∷ rs) zero xs ys e = take-append-le r.0 xs ys (omega (arith, fields_row r rs))
  section_append (r ∷ rs) (suc i) xs ys e =
      rw (drop-append-le r.0 xs ys (omega (arith, fields_row r rs))) (section_append rs i (drop r.0 xs) ys (sections_fit r rs xs e).1)

-- the entries of a row cut out and given back: those of a kind with no sign bit are cut as sizes
abbrev as_given : Kind → List ℤ → List ℤ
as_given κ xs = cond κ.signed xs (map pos (map nat_abs xs))

abbrev as_given_rows : List (ℕ × Kind) → List (List ℤ) → List (List ℤ)
as_given_rows [] xss = []
as_given_rows (r ∷ rs) [] = []
as_given_rows (r ∷ rs) (xs ∷ xss) = as_given r.1 xs ∷ as_given_rows rs xss

-- numbers that are not below zero come back from their sizes, and sizes from their numbers
sizes_back : (κ : Kind) → κ.signed ≡ false → (xs : List ℤ) → every (in_range κ) xs ≡ true → map pos (map nat_abs xs) ≡ xs
unfolding every
sizes_back κ e [] h = refl
sizes_back κ e (x ∷ xs) h =
    ap₂ {C = List ℤ} ◌∷◌ (not_below κ e x (both_left (in_range κ x) _ h)) (sizes_back κ e xs (both_right (in_range κ x) _ h))

-- a row in range comes back as it was cut out, and so do all
as_given_same : (κ : Kind) (xs : List ℤ) → every (in_range κ) xs ≡ true → as_given κ xs ≡ xs
as_given_same κ xs h = by κ.signed refl
  where
    by : (b : Bool) → κ.signed ≡ b → cond b xs (map pos (map nat_abs xs)) ≡ xs
    by true e = refl
    by false e = sizes_back κ e xs h

as_given_rows_lem : (rs : List (ℕ × Kind)) (xss : List (List ℤ)) → Shaped rs xss → every_row in_range rs xss ≡ true → as_given_rows rs xss ≡ xss
as_given_rows_lem [] [] s h = refl
as_given_rows_lem [] (xs ∷ xss) s h = absurd s
as_given_rows_lem (r ∷ rs) [] s h = absurd s
as_given_rows_lem (r ∷ rs) (xs ∷ xss) s h =
    ap₂ {C = List (List ℤ)} ◌∷◌
    (as_given_same r.1 xs (both_left _ (every_row in_range rs xss) h))
    (as_given_rows_lem rs xss s.1 (both_right (every (in_range r.1) xs) _ h))

-- what a writer is given, as rows of a record
abbrev pub given_rows : Figures → List (List ℤ)
given_rows g =
    (pos g.k ∷ [])
    ∷ map pos g.exposures
    ∷ g.increments
    ∷ map pos g.indices
    ∷ map pos g.reporting
    ∷ (pos g.weight ∷ [])
    ∷ map pos g.ulae
    ∷ (pos g.tail ∷ [])
    ∷ []

-- one row after another they are the fields
pub join_given : (g : Figures) → join (given_rows g) ≡ given_fields g
unfolding given_fields
join_given g = refl

-- a list of one entry
single : {A : Type 0} (xs : List A) (d : A) → length xs ≡ 1 → get_or xs 0 d ∷ [] ≡ xs
single [] d e = absurd (omega arith)
single (x ∷ []) d e = refl
single (x ∷ y ∷ xs) d e = absurd (omega arith)

module _ (k : ℕ) (vs : List ℤ) (f : RecordFields k vs) where
  -- each row of the fields has its length
  cut_shaped : Shaped (layout k) (sections_of (layout k) vs)
  unfolding field_count
  cut_shaped = sections_shaped (layout k) vs f.size

  -- the rows of what is cut out are the rows of the fields
  cut_rows : given_rows (cut_by k vs) ≡ as_given_rows (layout k) (sections_of (layout k) vs)
  unfolding layout section exposures_in increments_in indices_in reporting_in weight_in ulae_in tail_in
  cut_rows =
      let row5 = section (layout k) 5 vs in
      let row7 = section (layout k) 7 vs in
      let years : take 1 vs ≡ pos k ∷ [] = sym (single (take 1 vs) (pos 0) cut_shaped.0) ∙ rw (get_or-take 1 vs 0 (pos 0) (omega arith), f.first) in
      let weight = single (map nat_abs row5) 0 (length-map row5 nat_abs ∙ cut_shaped.1.1.1.1.1.0) in
      let tail = single (map nat_abs row7) 0 (length-map row7 nat_abs ∙ cut_shaped.1.1.1.1.1.1.1.0) in
      rw (years, ← weight, ← tail)

  -- the fields first in a list with more entries: what is found there is found among the fields
  given_first : (ys : List ℤ) → given_in (vs ++ ys) ≡ cut_by k vs
  unfolding given_at field_count exposures_in increments_in indices_in reporting_in weight_in ulae_in tail_in
  given_first ys =
      let first : get_or (vs ++ ys) 0 (pos 0) ≡ pos k = get_or-append vs ys (pos 0) 0 (omega (arith, f.size, fields_count k)) ∙ f.first in
      let row : (i : ℕ) → section (layout k) i (vs ++ ys) ≡ section (layout k) i vs = λ i. section_append (layout k) i vs ys f.size in
      rw (first, row 1, row 2, row 3, row 4, row 5, row 6, row 7)

  -- and so of a list that they are stored into
  pub given_stored : (out : List ℤ) → field_count k ≤ length out → given_in (sets out 0 vs) ≡ cut_by k vs
  given_stored out room = rw (sets-eq vs out 0 (omega (arith, f.size))) (given_first (drop (0 + length vs) out))

  -- what is cut out of the fields of a record has those fields
  pub given_cut : given_fields (cut_by k vs) ≡ vs
  unfolding field_count
  given_cut =
      let rows = sections_of (layout k) vs in
      let j = join_sections (layout k) vs f.size in
      let r : every_row in_range (layout k) rows ≡ true = sym (every_join in_range (layout k) rows cut_shaped) ∙ rw j f.ranges in
      sym (join_given (cut_by k vs)) ∙ ap join (cut_rows ∙ as_given_rows_lem (layout k) rows cut_shaped r) ∙ j

  -- and the writer takes it, if k is from 1 to 15 and the shares sum to M
  pub cut_taken : (m : ℕ) → 1 ≤ k → k ≤ 15 → m ≡ byte_count k → total (reporting_in k vs) ≡ million → Taken (cut_by k vs) m
  unfolding layout section exposures_in increments_in indices_in reporting_in ulae_in
  cut_taken m years most size sum =
      let s = cut_shaped in
      let row = section {A = ℤ} (layout k) in
      record {
        years = years;
        most = most;
        size = size;
        exposures = length-map (row 1 vs) nat_abs ∙ s.1.0;
        increments = s.1.1.0;
        indices = length-map (row 3 vs) nat_abs ∙ s.1.1.1.0;
        reporting = length-map (row 4 vs) nat_abs ∙ s.1.1.1.1.0;
        ulae = length-map (row 6 vs) nat_abs ∙ s.1.1.1.1.1.1.0;
        ranges = rw given_cut f.ranges;
        sum = sum;
      }

module _ (g : Figures) (m : ℕ) (t : Taken g m) where
  -- each row of what a writer takes has its length
  given_shaped : Shaped (layout g.k) (given_rows g)
  unfolding layout
  given_shaped =
      let exposures = length-map g.exposures pos ∙ t.exposures in
      let indices = length-map g.indices pos ∙ t.indices in
      let reporting = length-map g.reporting pos ∙ t.reporting in
      let ulae = length-map g.ulae pos ∙ t.ulae in
      (refl, (exposures, (t.increments, (indices, (reporting, (refl, (ulae, (refl, tt))))))))

  -- what a writer takes are the fields of a record
  pub given_fields_lem : RecordFields g.k (given_fields g)
  unfolding field_count given_fields
  given_fields_lem = record {
    size = ap length (sym (join_given g)) ∙ length_join (layout g.k) (given_rows g) given_shaped;
    first = refl;
    ranges = t.ranges;
  }

  -- and they come back from them
  pub given_again : cut_by g.k (given_fields g) ≡ g
  unfolding exposures_in increments_in indices_in reporting_in weight_in ulae_in tail_in
  given_again =
      let row = section_join (layout g.k) (given_rows g) given_shaped in
      rw (
        ← join_given g,
        row 1,
        row 2,
        row 3,
        row 4,
        row 5,
        row 6,
        row 7,
        sizes_again g.exposures,
        sizes_again g.indices,
        sizes_again g.reporting,
        sizes_again g.ulae,
      )
