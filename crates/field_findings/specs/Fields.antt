-- Where question 4 of a record s says no, and the figures there (document 01, "Questions in their order"). Assumes nothing.
use Rattle.std.specs.Prelude.{ℕ, ◌+◌, Bool, cond, List, ℤ, pos, neg_ℤ, get_or}
use Rattle.rules.specs.Lists.{below, every}
use Rattle.rules.specs.Record.{Kind, layout, count_of, section, value_of, bits_in_range, last_year_of, codes_of}
use Rattle.entries.specs.Leading.{leading}
use Rattle.finding.specs.declared.Finding.{Finding}
use Rattle.finding.specs.Places.{field, found}
use Rattle.field_spots.specs.Spots.{spot_of}
use Rattle.field_rows.specs.Rows.{kind_of}

-- the code of field m of row r
unfoldable pub code_at : List ℕ → ℕ → ℕ → ℕ
code_at s r m = get_or (section (layout (last_year_of s)) r (codes_of s)) m 0

-- whether it is in range
unfoldable pub field_passes : List ℕ → ℕ → ℕ → Bool
field_passes s r m = bits_in_range (kind_of (last_year_of s) r) (code_at s r m)

-- whether every field of row r is
unfoldable pub row_in_range : List ℕ → ℕ → Bool
row_in_range s r = every (field_passes s r) (below (count_of (last_year_of s) r))

-- the first row with a field that is not, and the first such field of row r; how many there are where all are in range
unfoldable pub first_row : List ℕ → ℕ
first_row s = leading (row_in_range s) 8

unfoldable pub first_field_of : List ℕ → ℕ → ℕ
first_field_of s r = leading (field_passes s r) (count_of (last_year_of s) r)

-- the least value of a kind: with a sign bit, the most of its size below zero
unfoldable pub least_of : Kind → ℤ
least_of κ = cond κ.signed (neg_ℤ (pos κ.most)) (pos κ.least)

-- field m of row r: its value, and the least and the most of its kind
unfoldable pub finding_at : List ℕ → ℕ → ℕ → Finding
finding_at s r m =
    let k = last_year_of s in
    found (field + r) (spot_of k r m).row (spot_of k r m).column (value_of (kind_of k r) (code_at s r m)) (least_of (kind_of k r)) (pos (kind_of k r).most)

-- question 4: the first field, in the record's order, that is not in range
unfoldable pub field_finding : List ℕ → Finding
field_finding s = finding_at s (first_row s) (first_field_of s (first_row s))
