-- Of document 01's record and today's without a tail: the figures are the same but for e_{k+1}, and questions 4 and 5 say the same. Assumes nothing.
use Prim.Native.Nat.{ℕ, ◌<◌, ◌≤◌}
use native.Mathlib.Omega.{arith}
use borrow.Author.Tests.{le-leb}
use mathlib.Core.Path.{◌≡◌, refl, sym, ap, ◌∙◌}
use mathlib.Core.Bool.{true}
use mathlib.Core.List.{List, [], ◌∷◌, ◌++◌, map-append, append_assoc}
use lib.IntN.{nat_abs}
use lib.ListN.{length, get_or, length-map, get_or-append}
use Rattle.rules.specs.Lists.{padded}
use Rattle.rules.specs.Record.{index, tail, most_index, layout, widths, section, value_of, in_range, negative_zero, bits_in_range, last_year_of, codes_of, fields_of, exposures_in, increments_in, indices_in, reporting_in, weight_in, ulae_in, tail_in, figures_of}
use Rattle.rules.specs.Reading.{in_ranges, shares_sum_of, field_questions}
use Rattle.layout.proofs.LayoutSections.{map_rows_shaped}
use Rattle.record.proofs.Cut.{sections_of, sections_shaped}
use Rattle.no_tail.proofs.Document01.{layout01, widths01, codes_of01, fields_of01, row01, figures_of01, field_questions01, Without}
use Rattle.no_tail.proofs.LastIndex.{with_indices}
use Rattle.no_tail.proofs.Rows.{Long, codes_long, values_row}
use Rattle.no_tail.proofs.SameValues.{SameValues, every_same, values_same}

-- an index and an amount in range
index_passes : (e : ℕ) → 1 ≤ e → e ≤ most_index → bits_in_range index e ≡ true
unfolding bits_in_range in_range value_of negative_zero
index_passes e l m = rw (le-leb 1 e l, le-leb e most_index m)

nothing_passes : bits_in_range tail 0 ≡ true
unfolding bits_in_range in_range value_of negative_zero
nothing_passes = refl

-- the first entries of a list in an array, whatever comes after them
padded_first : (xs ys : List ℕ) (i : ℕ) → i < length xs → get_or (padded 16 0 (xs ++ ys)) i 0 ≡ get_or (padded 16 0 xs) i 0
unfolding padded
padded_first xs ys i l = rw (append_assoc xs ys _) (get_or-append xs _ 0 i l ∙ sym (get_or-append xs _ 0 i l))

module _ (e : ℕ) (t s : List ℕ) (w : Without e t s) where
  abbrev k : ℕ
  k = last_year_of t

  long : Long (layout (last_year_of t)) (codes_of s)
  unfolding codes_of widths
  long = rw w.years (codes_long (layout k) _)

  long01 : Long (layout01 (last_year_of t)) (codes_of01 t)
  unfolding codes_of01 widths01
  long01 = codes_long (layout01 k) _

  values : SameValues (last_year_of t) e (fields_of s) (fields_of01 t)
  unfolding fields_of fields_of01
  values = rw w.years (values_same w.codes long long01)

  -- the figures, but for e_{k+1}
  pub figures_same : figures_of s ≡ with_indices (padded 16 0 (row01 t 3 ++ (e ∷ []))) (figures_of01 t)
  unfolding figures_of figures_of01 exposures_in increments_in indices_in reporting_in weight_in ulae_in tail_in
  figures_same =
      let v = values in
      rw (w.years, v.exposures, v.increments, v.indices, v.reporting, v.weight, v.ulae, v.amount, map-append nat_abs)

  row_long : length (row01 t 3) ≡ last_year_of t
  unfolding fields_of01 layout01
  row_long =
      let codes = codes_of01 t in
      length-map (section (layout01 k) 3 (fields_of01 t)) nat_abs
      ∙ ap length (values_row (layout01 k) codes long01 3)
      ∙ (map_rows_shaped value_of (layout01 k) (sections_of (layout01 k) codes) (sections_shaped (layout01 k) codes long01)).1.1.1.0

  -- the indices e_1 to e_k
  pub indices_same : (i : ℕ) → i < (figures_of01 t).k → get_or (padded 16 0 (row01 t 3 ++ (e ∷ []))) i 0 ≡ get_or (figures_of01 t).indices i 0
  unfolding figures_of01
  indices_same i l = padded_first (row01 t 3) (e ∷ []) i (omega (arith, row_long))

  -- questions 4 and 5
  pub fields_same : field_questions s ≡ field_questions01 t
  unfolding field_questions field_questions01 in_ranges shares_sum_of reporting_in
  fields_same =
      rw (w.years, every_same w.codes long long01 bits_in_range (index_passes e w.least w.most) nothing_passes, values.reporting)
