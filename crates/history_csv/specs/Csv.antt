-- The list of a history as comma-separated values: a line for each entry, in the list's order. A position is named by its first origin year; its shares have their
-- development year, and its levels their payment year, counted from the first of the window. Assumes nothing.
use Rattle.std.specs.Prelude.{ℕ, ◌+◌, true, false, List, ◌++◌, ℤ}
use Rattle.rules.specs.Lists.{up_to, joined}
use Rattle.rules.specs.History.{position_count}
use Rattle.composing.specs.Text.{ascii}
use Rattle.csv_rows.specs.Csv.{csv_line}
use Rattle.csv_rows.specs.Units.{hundredths, billionths}
use Rattle.history_places.specs.Places.{position_entry}

-- the number of position a, 0 or that of the question that refused it
unfoldable pub number_line : ℕ → List ℤ → ℕ → ℕ → List ℕ
number_line first list width a = csv_line (ascii "number") (ascii "question") true false (first + a) 0 (position_entry list width a 0)

-- n entries of position a from entry e on, of the years from 0 on
unfoldable pub entry_lines : List ℕ → List ℕ → ℕ → List ℤ → ℕ → ℕ → ℕ → ℕ → List ℕ
entry_lines name unit first list width a e n =
    joined (up_to (λ j. csv_line name unit true true (first + a) j (position_entry list width a (e + j))) n)

-- position a
unfoldable pub position_lines : ℕ → List ℤ → ℕ → ℕ → List ℕ
position_lines first list width a =
    number_line first list width a
    ++ (entry_lines (ascii "share") billionths first list width a 1 width
    ++ entry_lines (ascii "level") hundredths first list width a (1 + width) width)

-- the whole, under a heading
unfoldable pub history_csv : ℕ → ℕ → ℕ → List ℤ → List ℕ
history_csv first years width list =
    ascii "section,first origin year,development or payment year,value,unit\n"
    ++ joined (up_to (position_lines first list width) (position_count years width))
