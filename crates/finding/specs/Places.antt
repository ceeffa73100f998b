-- Where a question says no, and the figures there: the kinds of place. Assumes nothing.
use Rattle.std.specs.Prelude.{ℕ, ℤ}
use Rattle.finding.specs.declared.Finding.{Finding}

-- the record as a whole; an origin year i, a row; a development year j, a column; a payment year h, a row; the cell i, j
abbrev pub nowhere : ℕ
nowhere = 0

abbrev pub origin_year : ℕ
origin_year = 1

abbrev pub development_year : ℕ
development_year = 2

abbrev pub payment_year : ℕ
payment_year = 3

abbrev pub cell : ℕ
cell = 4

-- a field of the record: this plus its row in the record's layout, from 1 for the exposures to 7 for the amount still to be paid; so no field is the number of a cell
abbrev pub field : ℕ
field = 4

-- the kind of place, its row and its column, and the figures there
abbrev pub found : ℕ → ℕ → ℕ → ℤ → ℤ → ℤ → Finding
found place row column one two three = record { place = place; row = row; column = column; one = one; two = two; three = three }
