-- What a writer is given, row by row: the rows' lengths, the bits and the ranges of their fields. Assumes nothing.
use Prim.Native.Nat.{ℕ, ◌+◌, ◌<◌, ◌^◌}
use native.Mathlib.Omega.{arith}
use mathlib.Core.Path.{◌≡◌, refl, ap, ◌∙◌}
use mathlib.Core.Bool.{Bool, true, false, ◌&&◌, and-true}
use mathlib.Core.List.{List, [], ◌∷◌, map, zip_with}
use borrow.Author.Tests.{eqb-true, leb-true}
use lib.Dec.{eqb, leb, lit<}
use lib.IntN.{ℤ, pos}
use lib.ListN.{length, length-map}
use Rattle.rules.specs.Packing.{Fit}
use Rattle.rules.specs.Record.{Figures, Kind, last_year, exposure, increment, index, reporting, weight, ulae, tail, cells, layout, kinds_of, byte_count, code_of, in_range, million, most_amount, most_index}
use Rattle.rules.specs.Writing.{given_fields, given_last_year, given_lengths, given_ranges}
use Rattle.rules.specs.Lists.{every, between}
use Rattle.laws.proofs.Lists.{both_left, both_right}
use Rattle.layout.proofs.RecordSizes.{fit_between}
use Rattle.layout.proofs.LayoutSections.{join, Shaped, map_rows, zip_join, every_join}
use Rattle.recording.specs.Writable.{ranges_of}

-- the values of what is given, a row for each kind, and their bits
abbrev values_of : Figures → List (List ℤ)
values_of g =
    (pos g.k ∷ [])
    ∷ map pos g.exposures
    ∷ g.increments
    ∷ map pos g.indices
    ∷ map pos g.reporting
    ∷ (pos g.weight ∷ [])
    ∷ map pos g.ulae
    ∷ (pos g.tail ∷ [])
    ∷ []

abbrev pub row_codes : Figures → List (List ℕ)
row_codes g =
    (g.k ∷ [])
    ∷ g.exposures
    ∷ map (code_of increment) g.increments
    ∷ g.indices
    ∷ g.reporting
    ∷ (g.weight ∷ [])
    ∷ g.ulae
    ∷ (g.tail ∷ [])
    ∷ []

-- how many fields each row has, and of which kind
abbrev pub given_layout : Figures → List (ℕ × Kind)
given_layout g =
    (1, last_year)
    ∷ (length g.exposures, exposure)
    ∷ (length g.increments, increment)
    ∷ (length g.indices, index)
    ∷ (length g.reporting, reporting)
    ∷ (1, weight)
    ∷ (length g.ulae, ulae)
    ∷ (1, tail)
    ∷ []

-- the fields are the values, one row after another
fields_join : (g : Figures) → given_fields g ≡ join (values_of g)
unfolding given_fields
fields_join g = refl

-- six tests that hold, each of them
all_six : (a b c d e f : Bool) → a && (b && (c && (d && (e && f)))) ≡ true
    → (a ≡ true) × (b ≡ true) × (c ≡ true) × (d ≡ true) × (e ≡ true) × (f ≡ true)
all_six a b c d e f h =
    let h1 = both_right a (b && (c && (d && (e && f)))) h in
    let h2 = both_right b (c && (d && (e && f))) h1 in
    let h3 = both_right c (d && (e && f)) h2 in
    let h4 = both_right d (e && f) h3 in (
      both_left a (b && (c && (d && (e && f)))) h,
      both_left b (c && (d && (e && f))) h1,
      both_left c (d && (e && f)) h2,
      both_left d (e && f) h3,
      both_left e f h4,
      both_right e f h4,
    )

-- what question 1 says
pub few_years : (g : Figures) → given_last_year g ≡ true → g.k < 16
unfolding given_last_year
few_years g h =
    let l = leb-true g.k 15 (both_right (leb 1 g.k) (leb g.k 15) h) in
    omega arith

-- what question 2 says: the buffer has m bytes, and each list its length
pub record Lengths (g : Figures) (m : ℕ) : Type 0 where
  pub buffer : m ≡ byte_count g.k
  pub exposures : length g.exposures ≡ g.k + 1
  pub increments : length g.increments ≡ cells g.k
  pub indices : length g.indices ≡ g.k + 1
  pub reporting : length g.reporting ≡ g.k + 1
  pub ulae : length g.ulae ≡ g.k + 1

pub lengths_are : (g : Figures) (m : ℕ) → given_lengths g m ≡ true → Lengths g m
unfolding given_lengths layout
lengths_are g m h =
    let (a, b, c, d, e, f) =
    all_six (eqb m (byte_count g.k)) (eqb (length g.exposures) (g.k + 1)) (eqb (length g.increments) (cells g.k))
    (eqb (length g.indices) (g.k + 1)) (eqb (length g.reporting) (g.k + 1)) (eqb (length g.ulae) (g.k + 1)) h in
    record {
      buffer = eqb-true _ _ a;
      exposures = eqb-true _ _ b;
      increments = eqb-true _ _ c;
      indices = eqb-true _ _ d;
      reporting = eqb-true _ _ e;
      ulae = eqb-true _ _ f;
    }

-- the rows' own lengths
values_shaped : (g : Figures) → Shaped (given_layout g) (values_of g)
values_shaped g =
    (refl, (length-map g.exposures pos, (refl, (length-map g.indices pos, (length-map g.reporting pos, (refl, (length-map g.ulae pos, (refl, tt))))))))

pub codes_shaped : (g : Figures) → Shaped (given_layout g) (row_codes g)
codes_shaped g = (refl, (refl, (length-map g.increments (code_of increment), (refl, (refl, (refl, (refl, (refl, tt))))))))

-- the bits of a row whose kind has no sign bit are its sizes, and its range is between two limits
module _ (κ : Kind) (e : κ.signed ≡ false) where
  plain_codes : (xs : List ℕ) → map (code_of κ) (map pos xs) ≡ xs
  unfolding code_of
  plain_codes [] = refl
  plain_codes (x ∷ xs) = rw (plain_codes xs, e)

  plain_range : (xs : List ℕ) → every (in_range κ) (map pos xs) ≡ every (between κ.least κ.most) xs
  unfolding every in_range
  plain_range [] = refl
  plain_range (x ∷ xs) = rw (plain_range xs, e)

-- the bits of all fields, row by row
codes_rows : (g : Figures) → map_rows code_of (given_layout g) (values_of g) ≡ row_codes g
unfolding code_of
codes_rows g =
    rw (
      plain_codes exposure refl g.exposures,
      plain_codes index refl g.indices,
      plain_codes reporting refl g.reporting,
      plain_codes ulae refl g.ulae,
    )

module _ (g : Figures) (m : ℕ) (l : Lengths g m) where
  -- the rows have the lengths that the layout gives
  pub rows_layout : given_layout g ≡ layout g.k
  unfolding layout
  rows_layout = rw (l.exposures, l.increments, l.indices, l.reporting, l.ulae)

  -- the bits of the fields are those of the rows, one row after another
  pub codes_join : zip_with code_of (kinds_of (layout g.k)) (given_fields g) ≡ join (row_codes g)
  codes_join = rw (fields_join g, ← rows_layout, zip_join code_of (given_layout g) (values_of g) (values_shaped g)) (ap join (codes_rows g))

  -- question 4 row by row, where question 1 says yes
  pub ranges_are : given_last_year g ≡ true → given_ranges g ≡ ranges_of g
  unfolding given_ranges ranges_of given_last_year every
  ranges_are y =
      rw (
        fields_join g,
        ← rows_layout,
        every_join in_range (given_layout g) (values_of g) (values_shaped g),
        plain_range last_year refl (g.k ∷ []),
        y,
        plain_range exposure refl g.exposures,
        plain_range index refl g.indices,
        plain_range reporting refl g.reporting,
        plain_range weight refl (g.weight ∷ []),
        plain_range ulae refl g.ulae,
        plain_range tail refl (g.tail ∷ []),
        and-true (between 0 million g.weight),
        and-true (between 0 most_amount g.tail),
        and-true (between 0 most_amount g.tail),
      )

-- what question 4 says, row by row
pub record Ranges (g : Figures) : Type 0 where
  pub exposures : every (between 1 million) g.exposures ≡ true
  pub increments : every (in_range increment) g.increments ≡ true
  pub indices : every (between 1 most_index) g.indices ≡ true
  pub reporting : every (between 0 million) g.reporting ≡ true
  pub weight : every (between 0 million) (g.weight ∷ []) ≡ true
  pub ulae : every (between 0 most_amount) g.ulae ≡ true
  pub tail : every (between 0 most_amount) (g.tail ∷ []) ≡ true

pub ranges_hold : (g : Figures) → ranges_of g ≡ true → Ranges g
unfolding ranges_of every
ranges_hold g h =
    let (a, b, c, d, e, f) =
    all_six (every (between 1 million) g.exposures) (every (in_range increment) g.increments) (every (between 1 most_index) g.indices)
    (every (between 0 million) g.reporting) (between 0 million g.weight) (every (between 0 most_amount) g.ulae && between 0 most_amount g.tail) h in
    record {
      exposures = a;
      increments = b;
      indices = c;
      reporting = d;
      weight = and-true (between 0 million g.weight) ∙ e;
      ulae = both_left (every (between 0 most_amount) g.ulae) (between 0 most_amount g.tail) f;
      tail = and-true (between 0 most_amount g.tail) ∙ both_right (every (between 0 most_amount) g.ulae) (between 0 most_amount g.tail) f;
    }

-- and so each field has no more bits than its width
pub record Fitting (g : Figures) : Type 0 where
  pub exposures : Fit 20 g.exposures
  pub indices : Fit 23 g.indices
  pub reporting : Fit 20 g.reporting
  pub weight : g.weight < 2 ^ 20
  pub ulae : Fit 34 g.ulae
  pub tail : g.tail < 2 ^ 34

pub ranges_fit : (g : Figures) → ranges_of g ≡ true → Fitting g
ranges_fit g h =
    let r = ranges_hold g h in
    record {
      exposures = fit_between 1 million 20 (lit< tt) g.exposures r.exposures;
      indices = fit_between 1 most_index 23 (lit< tt) g.indices r.indices;
      reporting = fit_between 0 million 20 (lit< tt) g.reporting r.reporting;
      weight = fit_between 0 million 20 (lit< tt) (g.weight ∷ []) r.weight 0;
      ulae = fit_between 0 most_amount 34 (lit< tt) g.ulae r.ulae;
      tail = fit_between 0 most_amount 34 (lit< tt) (g.tail ∷ []) r.tail 0;
    }
