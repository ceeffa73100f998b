-- Cells of a table of the report. A table stands in two arrays, values and styles, with a place for each cell, row by row.
-- A style is 0 for a blank cell; any other says how many decimals the number has and how it is marked. Assumes nothing.
use Rattle.std.specs.Prelude.{ℕ, zero, suc, ◌+◌, ◌-◌, ◌*◌, ◌/◌, ◌%◌, max, cond, List, [], ◌∷◌, ◌++◌, eqb, ltb, ℤ, pos, length, get_or}
use Rattle.rules.specs.Lists.{up_to, joined}
use Rattle.composing.specs.Text.{ascii, fixed}
use Rattle.numerals.specs.Numerals.{number}

-- how many places a table has at most
abbrev pub most_places : ℕ
most_places = 320

-- the marks: none; a percentage; a year, which is not grouped; a figure past the diagonal; sizes of averages, five steps;
-- differences above zero and below zero, four steps each; sizes of averages below zero, five steps; a payment whose average is 0.00
abbrev pub plain : ℕ
plain = 0

abbrev pub percentage : ℕ
percentage = 1

abbrev pub year : ℕ
year = 2

abbrev pub future : ℕ
future = 3

abbrev pub shade : ℕ → ℕ
shade step = 3 + step

abbrev pub above : ℕ → ℕ
above step = 8 + step

abbrev pub below : ℕ → ℕ
below step = 12 + step

abbrev pub negative : ℕ → ℕ
negative step = 16 + step

abbrev pub lost : ℕ
lost = 22

-- the style of a number with d decimals, below 10, and a mark
unfoldable pub styled : ℕ → ℕ → ℕ
styled mark d = 1 + (d + 10 * mark)

-- the mark and the decimals of a style
unfoldable pub mark_of : ℕ → ℕ
mark_of style = (style - 1) / 10

unfoldable pub decimals_of : ℕ → ℕ
decimals_of style = (style - 1) % 10

-- the classes of the marks, by their numbers; the first three have none
unfoldable pub class_names : List (List ℕ)
class_names =
    []
    ∷ []
    ∷ []
    ∷ ascii "f"
    ∷ ascii "s1"
    ∷ ascii "s2"
    ∷ ascii "s3"
    ∷ ascii "s4"
    ∷ ascii "s5"
    ∷ ascii "h1"
    ∷ ascii "h2"
    ∷ ascii "h3"
    ∷ ascii "h4"
    ∷ ascii "l1"
    ∷ ascii "l2"
    ∷ ascii "l3"
    ∷ ascii "l4"
    ∷ ascii "n1"
    ∷ ascii "n2"
    ∷ ascii "n3"
    ∷ ascii "n4"
    ∷ ascii "n5"
    ∷ ascii "z"
    ∷ []

unfoldable pub class_name : ℕ → List ℕ
class_name mark = get_or class_names mark []

-- how a cell of a mark begins in HTML
unfoldable pub cell_start : ℕ → List ℕ
cell_start mark = cond (ltb mark 3) (ascii "<td>") (ascii "<td class=\"" ++ (class_name mark ++ ascii "\">"))

-- the sign after a percentage
unfoldable pub percent_sign : ℕ → List ℕ
percent_sign mark = cond (eqb mark percentage) (ascii "%") []

-- a number of a mark in HTML
unfoldable pub web_number : ℕ → ℕ → ℤ → List ℕ
web_number mark d z = cond (eqb mark year) (fixed d z) (number d z ++ percent_sign mark)

-- a cell in HTML
unfoldable pub web_cell : ℕ → ℤ → List ℕ
web_cell style z =
    cond (eqb style 0) (ascii "<td></td>") (cell_start (mark_of style) ++ (web_number (mark_of style) (decimals_of style) z ++ ascii "</td>"))

-- a cell as text
unfoldable pub text_cell : ℕ → ℤ → List ℕ
text_cell style z = cond (eqb style 0) [] (fixed (decimals_of style) z ++ percent_sign (mark_of style))

-- the cell at place p
abbrev pub web_cell_at : List ℤ → List ℕ → ℕ → List ℕ
web_cell_at values styles p = web_cell (get_or styles p 0) (get_or values p (pos 0))

abbrev pub text_cell_at : List ℤ → List ℕ → ℕ → List ℕ
text_cell_at values styles p = text_cell (get_or styles p 0) (get_or values p (pos 0))

-- the largest of f 0, .., f (n − 1); 0 where n is 0
unfoldable pub largest : (ℕ → ℕ) → ℕ → ℕ
largest f zero = 0
largest f (suc n) = max (largest f n) (f n)

-- how many characters the widest cell of column j has, in n rows of a table of that many columns
unfoldable pub column_places : List ℤ → List ℕ → ℕ → ℕ → ℕ → ℕ
column_places values styles columns n j = largest (λ i. length (text_cell_at values styles (i * columns + j))) n
