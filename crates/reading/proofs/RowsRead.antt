-- A record that has passed questions 1 and 2, row by row: its codes, its fields, its lists and its ranges. Assumes nothing.
use Prim.Native.Nat.{ℕ, ◌≤◌}
use native.Mathlib.Omega.{arith}
use mathlib.Core.Path.{◌≡◌}
use mathlib.Core.List.{List, []}
use lib.ListN.{length, get_or}
use Rattle.rules.specs.Record.{layout, section, widths, bit_count, filling_count, value_of, bits_in_range, last_year_of, codes_of, fields_of}
use Rattle.rules.specs.Reading.{in_ranges}
use Rattle.packing.specs.Field.{field_at}
use Rattle.packing.proofs.Pack.{field_lt}
use Rattle.packing.proofs.BitPlaces.{field_append, field_byte}
use Rattle.layout.proofs.LayoutSections.{join, Shaped, map_rows, every_row, section_join, zip_join, map_rows_shaped, every_join}
use Rattle.layout.proofs.Codes.{rows_from, rows_shaped, unpack_rows}
use Rattle.layout.proofs.RecordSizes.{bytes_room, bytes_least}
use Rattle.opening.proofs.Opened.{WholeRecord}

module _ (s : List ℕ) (h : WholeRecord s) where
  -- the rows of the record
  abbrev pub rows : List (List ℕ)
  rows = rows_from s 0 (layout (last_year_of s))

  codes_are : codes_of s ≡ join rows
  unfolding codes_of widths bit_count
  codes_are =
      let room = bytes_room (last_year_of s) in
      unpack_rows s (layout (last_year_of s)) 0 (filling_count (last_year_of s)) (omega (arith, h.long))

  pub rows_are : Shaped (layout (last_year_of s)) rows
  rows_are = rows_shaped s 0 (layout (last_year_of s))

  pub fields_are : fields_of s ≡ join (map_rows value_of (layout (last_year_of s)) rows)
  unfolding fields_of
  fields_are = rw codes_are (zip_join value_of (layout (last_year_of s)) rows rows_are)

  -- row i of the codes and of the fields
  pub codes_row : (i : ℕ) → section (layout (last_year_of s)) i (codes_of s) ≡ get_or rows i []
  codes_row i = rw codes_are (section_join (layout (last_year_of s)) rows rows_are i)

  pub fields_row : (i : ℕ) → section (layout (last_year_of s)) i (fields_of s) ≡ get_or (map_rows value_of (layout (last_year_of s)) rows) i []
  fields_row i =
      rw fields_are
      (section_join (layout (last_year_of s)) (map_rows value_of (layout (last_year_of s)) rows) (map_rows_shaped value_of (layout (last_year_of s)) rows rows_are) i)

  -- question 4 row by row
  pub ranges_are : in_ranges s ≡ every_row bits_in_range (layout (last_year_of s)) rows
  unfolding in_ranges
  ranges_are = rw codes_are (every_join bits_in_range (layout (last_year_of s)) rows rows_are)

  -- the first field is k
  pub years_field : field_at s 0 4 ≡ last_year_of s
  unfolding last_year_of
  years_field =
      let room = bytes_least (last_year_of s) h.some in
      let long : 45 ≤ length s = omega (arith, h.long) in
      let byte = field_byte s 0 h.small (omega arith) in
      let parts = field_append s 0 4 4 (omega arith) in
      omega (arith, byte, parts, field_lt s 4 4)
