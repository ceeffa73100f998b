-- A section of the result list as comma-separated values: a line for each entry, in the list's order. And the line of a number beside the list. Assumes nothing.
use Rattle.std.specs.Prelude.{ℕ, ◌+◌, Bool, true, false, cond, List, [], ◌++◌, ℤ}
use Rattle.rules.specs.Lists.{up_to, joined}
use Rattle.composing.specs.Text.{ascii, decimal, integer}
use Rattle.rows.specs.Rows.{entry, falling, rising, level, rows_by}
use Rattle.csv_rows.specs.declared.Shape.{Shape}

-- The years of a section's entries: how many rows it has and how they are cut, a row's blank columns being its first year; and whether its entries have an
-- origin year, that of the row, and a development or payment year.

-- the cells that are given, and those past the diagonal, by row
abbrev pub given_cells : ℕ → Shape
given_cells k = record { n = k + 1; rows = falling (k + 1); origin = true; year = true }

abbrev pub future_cells : ℕ → Shape
future_cells k = record { n = k + 1; rows = rising (k + 1); origin = true; year = true }

-- an entry for each origin year
abbrev pub by_origin : ℕ → Shape
by_origin k = record { n = k + 1; rows = level 0 1; origin = true; year = false }

-- m entries, for the years from y on
abbrev pub by_year : ℕ → ℕ → Shape
by_year y m = record { n = 1; rows = level y m; origin = false; year = true }

-- one entry, of no year
abbrev pub alone : Shape
alone = record { n = 1; rows = level 0 1; origin = false; year = false }

-- a year, or nothing where there is none
unfoldable pub year_text : Bool → ℕ → List ℕ
year_text shown y = cond shown (decimal y) []

-- a line: the name of the section, the entry's origin year i and its year y, its value as the list has it, and its unit
unfoldable pub csv_line : List ℕ → List ℕ → Bool → Bool → ℕ → ℕ → ℤ → List ℕ
csv_line name unit origin year i y z =
    (name ++ (ascii "," ++ (year_text origin i ++ (ascii "," ++ year_text year y)))) ++ (ascii "," ++ (integer z ++ (ascii "," ++ (unit ++ ascii "\n"))))

-- a row: n entries of the list from place p on, of the years from y on
unfoldable pub csv_row : List ℤ → List ℕ → List ℕ → Bool → Bool → ℕ → ℕ → ℕ → ℕ → List ℕ
csv_row list name unit origin year i y n p = joined (up_to (λ j. csv_line name unit origin year i (y + j) (entry list (p + j))) n)

-- a section: the entries of the list from place p on
unfoldable pub csv_section : List ℤ → List ℕ → List ℕ → Shape → ℕ → List ℕ
csv_section list name unit s p = rows_by (csv_row list name unit s.origin s.year) s.n 0 s.rows p

-- the line of a number beside the list, of no year
unfoldable pub csv_beside : List ℕ → List ℕ → ℕ → List ℕ
csv_beside name unit n = name ++ (ascii ",,," ++ (decimal n ++ (ascii "," ++ (unit ++ ascii "\n"))))
