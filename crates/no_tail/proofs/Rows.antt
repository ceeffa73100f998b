-- A list with a code for each field of a layout, row by row: its values, and a test of every code. Assumes nothing.
use Prim.Native.Nat.{ℕ}
use mathlib.Core.Path.{◌≡◌, sym, ap, ◌∙◌}
use mathlib.Core.Bool.{Bool}
use mathlib.Core.List.{List, [], zip_with}
use lib.ListN.{length, get_or, length-map}
use Rattle.rules.specs.Packing.{unpack}
use Rattle.rules.specs.Record.{Kind, bits_of, kinds_of, section, value_of, every_field}
use Rattle.packing.proofs.Pack.{length_unpack}
use Rattle.layout.proofs.LayoutSections.{map_rows, every_row, section_join, zip_join, map_rows_shaped, every_join}
use Rattle.layout.proofs.Codes.{widths_of}
use Rattle.record.proofs.Cut.{sections_of, sections_shaped, join_sections}

-- as many codes as a layout has fields
abbrev pub Long : List (ℕ × Kind) → List ℕ → Type 0
Long rs xs = length xs ≡ length (kinds_of rs)

pub codes_long : (rs : List (ℕ × Kind)) (n : ℕ) → Long rs (unpack (widths_of rs) n)
codes_long rs n = length_unpack (widths_of rs) n ∙ length-map (kinds_of rs) bits_of

module _ (rs : List (ℕ × Kind)) (xs : List ℕ) (long : Long rs xs) where
  pub values_row : (i : ℕ) → section rs i (zip_with value_of (kinds_of rs) xs) ≡ get_or (map_rows value_of rs (sections_of rs xs)) i []
  values_row i =
      let rows = sections_of rs xs in
      let shaped = sections_shaped rs xs long in
      ap (λ (l : List ℕ). section rs i (zip_with value_of (kinds_of rs) l)) (sym (join_sections rs xs long))
      ∙ ap (section rs i) (zip_join value_of rs rows shaped)
      ∙ section_join rs (map_rows value_of rs rows) (map_rows_shaped value_of rs rows shaped) i

  pub every_row_lem : (ok : Kind → ℕ → Bool) → every_field ok (kinds_of rs) xs ≡ every_row ok rs (sections_of rs xs)
  every_row_lem ok = ap (every_field ok (kinds_of rs)) (sym (join_sections rs xs long)) ∙ every_join ok rs (sections_of rs xs) (sections_shaped rs xs long)
