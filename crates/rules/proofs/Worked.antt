-- The two-year record of document 01, computed: the record of its fields, the fields of the record, and the answers of a reader and of a writer.
-- Assumes nothing.
use Prim.Native.Nat.{ℕ}
use mathlib.Core.Path.{◌≡◌, refl}
use mathlib.Core.List.{List, [], ◌∷◌, zip_with}
use lib.IntN.{ℤ, pos}
use Rattle.rules.specs.Lists.{total}
use Rattle.rules.specs.Packing.{pack, unpack, number_of, bytes_of}
use Rattle.rules.specs.Questions.{first_no}
use Rattle.rules.specs.Record.{Figures, figures, cells, layout, kinds_of, section, field_count, widths, bit_count, byte_count, filling_count, value_of, code_of, in_range, negative_zero, bits_in_range, every_field, last_year_of, codes_of, filling_of, fields_of, record_of, reporting_in}
use Rattle.rules.specs.Reading.{has_last_year, has_length, has_room, in_ranges, shares_sum_of, opening_questions, field_questions, read_answer_of}
use Rattle.rules.specs.Writing.{given_fields, given_last_year, given_lengths, given_ranges, given_sum, write_answer}

-- k = 1; exposures 1, 1; increments 60, 40, 66; indices 1,100,000, 1,000,000; reporting shares 800,000, 200,000; weight 500,000; ULAE totals 6, 10; nothing still to be
-- paid after year 1
abbrev pub lists : Figures
lists = figures 1 (1 ∷ 1 ∷ []) (pos 60 ∷ pos 40 ∷ pos 66 ∷ []) (1100000 ∷ 1000000 ∷ []) (800000 ∷ 200000 ∷ []) 500000 (6 ∷ 10 ∷ []) 0

-- its fields in the record's order
abbrev pub fields : List ℤ
fields =
    pos 1
    ∷ pos 1
    ∷ pos 1
    ∷ pos 60
    ∷ pos 40
    ∷ pos 66
    ∷ pos 1100000
    ∷ pos 1000000
    ∷ pos 800000
    ∷ pos 200000
    ∷ pos 500000
    ∷ pos 6
    ∷ pos 10
    ∷ pos 0
    ∷ []

-- its 45 bytes: hexadecimal 100001000010000000780000000a00000002110c8e01e848186a0061a80f424000000003000000014000000000
abbrev pub bytes : List ℕ
bytes =
    16 ∷ 0 ∷ 1 ∷ 0 ∷ 0 ∷ 16 ∷ 0 ∷ 0 ∷ 0 ∷ 120 ∷ 0 ∷ 0 ∷ 0 ∷ 10 ∷ 0 ∷ 0 ∷ 0 ∷ 2 ∷ 17 ∷ 12 ∷ 142 ∷ 1 ∷ 232 ∷ 72 ∷ 24 ∷ 106 ∷ 0 ∷ 97 ∷ 168 ∷ 15 ∷ 66 ∷ 64 ∷ 0 ∷ 0 ∷ 0 ∷ 3 ∷ 0 ∷ 0 ∷ 0 ∷ 1 ∷ 64 ∷ 0 ∷ 0 ∷ 0 ∷ 0 ∷ []

-- the record of the fields
pub fields_record : record_of 1 fields ≡ bytes
unfolding record_of bytes_of byte_count bit_count filling_count widths layout kinds_of cells total pack unpack code_of zip_with
fields_record = refl

-- the fields of the record
pub record-fields : fields_of bytes ≡ fields
unfolding fields_of codes_of last_year_of number_of byte_count bit_count filling_count widths layout kinds_of cells total pack unpack value_of zip_with
record-fields = refl

-- the reader accepts it with room for its 14 fields, and asks for room where there is less
pub worked_read : (read_answer_of bytes 14 ≡ 0) × (read_answer_of bytes 13 ≡ 3)
unfolding read_answer_of opening_questions field_questions first_no has_last_year has_length has_room in_ranges shares_sum_of fields_of codes_of last_year_of filling_of number_of field_count byte_count bit_count filling_count widths layout kinds_of section reporting_in cells total pack unpack value_of in_range negative_zero bits_in_range every_field zip_with
worked_read = (refl, refl)

-- the lists have the fields, and the writer accepts them with a buffer of 45 bytes
pub lists_written : (given_fields lists ≡ fields) × (write_answer lists 45 ≡ 0)
unfolding write_answer first_no given_fields given_last_year given_lengths given_ranges given_sum byte_count bit_count widths layout kinds_of cells total in_range every_field
lists_written = (refl, refl)
