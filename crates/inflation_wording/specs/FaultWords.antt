-- What is wrong with a line of inflation, in words (docs/SHEET.md). Assumes nothing.
use Rattle.std.specs.Prelude.{ℕ, suc, ◌+◌, Bool, true, false, cond, List, [], ◌++◌, eqb, ltb, get_or, take}
use Rattle.composing.specs.Text.{ascii, decimal}
use Rattle.inflation_line.specs.declared.Fault.{Fault}
use Rattle.inflation_line.specs.InflationLine.{shape_names, shape_at, number_at, is_year}
use Rattle.sheet.specs.Sheet.{lines_before, year_asked, inflation_line}
use Rattle.sheet_wording.specs.Problem.{named, cell_text}

-- the name of the shape at a place
abbrev pub shape_name : ℕ → List ℕ
shape_name s = get_or shape_names s []

-- a cell of the line, of which the first 20 bytes are shown
unfoldable pub shown_cell : List ℕ → ℕ → List ℕ
shown_cell line n = cell_text (take 20 (number_at line n))

-- what is due in the place of number n: a year among those wanted, or a rate, by its limits where question 20 says no and by its form else
unfoldable pub number_due : Bool → ℕ → ℕ → List ℕ
number_due asked years n =
    cond (is_year n) (ascii "a year from 1 to " ++ decimal years)
    (cond asked (ascii "a rate from -0.5 to 1.0") (ascii "a decimal of at most 15 digits or 16 hex digits"))

-- number n of the line, and what is due
unfoldable pub number_start : List ℕ → ℕ → List ℕ
number_start line n = ascii "number " ++ (decimal n ++ (ascii " of " ++ (named (shape_name (shape_at line)) ++ (ascii " is " ++ (shown_cell line n ++ ascii ", and ")))))

unfoldable pub number_words : Bool → ℕ → List ℕ → ℕ → List ℕ
number_words asked years line n = number_start line n ++ (number_due asked years n ++ ascii " is due")

-- how many numbers the shape takes, and how many stand there
unfoldable pub count_words : ℕ → ℕ → List ℕ
count_words s n =
    named (shape_name s)
    ++ (ascii " takes "
    ++ ((decimal (suc s) ++ cond (eqb (suc s) 1) (ascii " number, and ") (ascii " numbers, and ")) ++ (decimal n ++ cond (eqb n 1) (ascii " stands there") (ascii " stand there"))))

-- the words of a fault, for this many years
unfoldable pub fault_words : ℕ → List ℕ → ℕ → ℕ → List ℕ
fault_words years line kind n =
    cond (eqb kind 1) (ascii "`flat`, `fading` or `shock` is due after `inflation`, not " ++ shown_cell line 0)
    (cond (eqb kind 2) (count_words (shape_at line) n)
    (cond (eqb kind 3) (number_words false years line n)
    (cond (eqb kind 20) (number_words true years line n) (ascii "the index of year " ++ (decimal n ++ ascii " leaves 1 to 5,000,000")))))

-- the refusal in front, where it is one
unfoldable pub fault_front : ℕ → List ℕ
fault_front kind = cond (ltb kind 20) [] (ascii "refused " ++ (decimal kind ++ ascii ": "))

-- a line of words for the line of inflation of a text's lines
unfoldable pub fault_line : List (List ℕ) → Fault → List ℕ
fault_line ls f =
    fault_front f.kind
    ++ (ascii "line " ++ (decimal (lines_before true ls + 1) ++ (ascii ": " ++ (fault_words (year_asked ls + 1) (inflation_line ls) f.kind f.about ++ ascii "\n"))))
