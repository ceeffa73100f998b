-- The lines of a sheet of figures: one table, by which they are written, read and named; and those of a history (docs/SHEET.md). Assumes nothing.
use Rattle.std.specs.Prelude.{ℕ, ◌+◌, ◌-◌, Bool, false, cond, List, [], ◌∷◌, eqb, ltb, ℤ, pos, neg_ℤ, get_or}
use Rattle.rules.specs.Lists.{total, up_to}
use Rattle.rules.specs.Record.{million, most_index, most_amount, most_fields}
use Rattle.rules.specs.History.{most_history, least_width, most_width, development_years}
use Rattle.composing.specs.Text.{ascii}
use Rattle.sheet.specs.declared.Due.{Due}

-- the label of each row of the record, and of the two that a history alone has
unfoldable pub labels : List (List ℕ)
labels =
    ascii "k"
    ∷ ascii "exposures"
    ∷ ascii "paid"
    ∷ ascii "indices"
    ∷ ascii "reporting"
    ∷ ascii "weight"
    ∷ ascii "ulae"
    ∷ ascii "tail"
    ∷ ascii "years"
    ∷ ascii "width"
    ∷ []

-- a line that is due: its row, how many numbers it takes, the least and the most that each may be
abbrev pub due : ℕ → ℕ → ℤ → ℤ → Due
due row count least most = record { row = row; count = count; least = least; most = most }

-- its label
abbrev pub label_due : Due → List ℕ
label_due d = get_or labels d.row []

-- how many lines the sheet of the years 0 to k has: one for each row, and the increments of each origin year in a line of their own
abbrev pub line_count : ℕ → ℕ
line_count k = k + 8

-- the place of the indices
abbrev pub indices_place : ℕ → ℕ
indices_place k = k + 3

-- the line due at a place of it
unfoldable pub due_at : ℕ → ℕ → Due
due_at k place =
    cond (eqb place 0) (due 0 1 (pos 1) (pos 15))
    (cond (eqb place 1) (due 1 (k + 1) (pos 1) (pos million))
    (cond (ltb place (k + 3)) (due 2 (k + 3 - place) (neg_ℤ (pos most_amount)) (pos most_amount))
    (cond (eqb place (k + 3)) (due 3 (k + 1) (pos 1) (pos most_index))
    (cond (eqb place (k + 4)) (due 4 (k + 1) (pos 0) (pos million))
    (cond (eqb place (k + 5)) (due 5 1 (pos 0) (pos million))
    (cond (eqb place (k + 6)) (due 6 (k + 1) (pos 0) (pos most_amount))
    (due 7 1 (pos 0) (pos most_amount))))))))

unfoldable pub due_lines : ℕ → List Due
due_lines k = up_to (due_at k) (line_count k)

-- the line due at a place of a history of so many years
unfoldable pub history_due_at : ℕ → ℕ → Due
history_due_at years place =
    cond (eqb place 0) (due 8 1 (pos least_width) (pos most_history))
    (cond (eqb place 1) (due 9 1 (pos least_width) (pos (development_years years 0)))
    (cond (eqb place 2) (due 1 years (pos 1) (pos million))
    (due 2 (development_years years (place - 3)) (neg_ℤ (pos most_amount)) (pos most_amount))))

-- Both tables: that of a history, or that of figures, and n the first number read, years or k.

-- how many lines there are
abbrev pub lines_in : Bool → ℕ → ℕ
lines_in history n = cond history (n + 3) (line_count n)

-- the line due at a place
abbrev pub due_in : Bool → ℕ → ℕ → Due
due_in history n place = cond history (history_due_at n place) (due_at n place)

-- how many numbers the lines before a place take
unfoldable pub start_in : Bool → ℕ → ℕ → ℕ
start_in history n place = total (up_to (λ i. (due_in history n i).count) place)

abbrev pub start_at : ℕ → ℕ → ℕ
start_at k place = start_in false k place

-- the most that the first number may be
abbrev pub most_first : Bool → ℕ
most_first history = cond history most_history 15

-- the most numbers of a history, those of 64 years: years, width, exposures and increments
abbrev pub most_numbers : ℕ
most_numbers = 970

-- how many numbers are made room for
abbrev pub room_in : Bool → ℕ
room_in history = cond history most_numbers most_fields
