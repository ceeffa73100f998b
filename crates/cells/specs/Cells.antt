-- A line of a text: its content, its label and its cells. Assumes nothing.
use Rattle.std.specs.Prelude.{ℕ, zero, suc, ◌-◌, Bool, cond, ◌&&◌, List, [], ◌∷◌, map, eqb, leb, ℤ, length, get_or, take, drop}
use Rattle.std.specs.Int.Signed.{le_z}
use Rattle.rules.specs.Lists.{every}
use Rattle.composing.specs.Text.{ascii}
use Rattle.scanning.specs.Parts.{among, fails, until, from, past, pieces}
use Rattle.scanning.specs.Numbers.{is_number, whole_of}
use Rattle.separating.specs.Separators.{decides, separators, from_cell}
use Rattle.commenting.specs.Comments.{uncommented}

-- the last byte of a text
abbrev pub last_of : List ℕ → ℕ
last_of xs = get_or xs (length xs - 1) 0

-- a line without a carriage return at its very end
unfoldable pub unreturned : List ℕ → List ℕ
unreturned line = cond (eqb (last_of line) 13) (take (length line - 1) line) line

-- its content: that before the comment, and nothing where the line begins with #, after spaces and quotes
unfoldable pub content_of : List ℕ → List ℕ
content_of line = let xs = unreturned line in cond (eqb (get_or (from (fails (among (ascii " \""))) xs) 0 0) 35) [] (take (uncommented 0 xs) xs)

-- whether there is nothing in it but spaces, tabs, commas, semicolons and quotes
unfoldable pub is_bare : List ℕ → Bool
is_bare line = every (among (ascii " \t,;\"")) line

-- a line from its label on
unfoldable pub from_label : List ℕ → List ℕ
from_label line = from (fails (among (ascii " "))) line

-- whether a text begins with a quote
abbrev pub is_quoted : List ℕ → Bool
is_quoted xs = eqb (get_or xs 0 0) 34

-- the label, in quotes what stands between them, and what comes right after it
unfoldable pub label_of : List ℕ → List ℕ
label_of line = let xs = from_label line in cond (is_quoted xs) (until (among (ascii "\"")) (drop 1 xs)) (until (among (ascii " \t,;")) xs)

unfoldable pub after_label : List ℕ → List ℕ
after_label line = let xs = from_label line in cond (is_quoted xs) (past (among (ascii "\"")) (drop 1 xs)) (from (among (ascii " \t,;")) xs)

-- how many of the first n bytes are left without the spaces at their end
unfoldable pub unspaced : ℕ → List ℕ → ℕ
unspaced zero xs = 0
unspaced (suc n) xs = cond (eqb (get_or xs n 0) 32) (unspaced n xs) (suc n)

-- a piece without the spaces around it
unfoldable pub trimmed : List ℕ → List ℕ
trimmed piece = let xs = from (fails (among (ascii " "))) piece in take (unspaced (length xs) xs) xs

-- what stands in quotes is its content
unfoldable pub unquoted : List ℕ → List ℕ
unquoted w = cond (leb 2 (length w) && (is_quoted w && eqb (last_of w) 34)) (take (length w - 2) (drop 1 w)) w

-- the cell that a piece is
unfoldable pub cell_from : List ℕ → List ℕ
cell_from piece = unquoted (trimmed piece)

-- the pieces that are not empty
unfoldable pub filled : List (List ℕ) → List (List ℕ)
filled [] = []
filled ([] ∷ xs) = filled xs
filled ((b ∷ bs) ∷ xs) = (b ∷ bs) ∷ filled xs

-- the pieces up to the last that has more than spaces and quotes
unfoldable pub used : List (List ℕ) → List (List ℕ)
used [] = []
used (x ∷ xs) = cond (every (every (among (ascii " \""))) (x ∷ xs)) [] (x ∷ used xs)

-- the cells of a text where s decides: each piece between separators; where spaces and tabs separate, several are as one
unfoldable pub cells_by : ℕ → List ℕ → List (List ℕ)
cells_by s text = let ps = pieces (among (separators s)) text in map cell_from (used (cond (decides s) ps (filled ps)))

-- the byte that decides for a line, and the text of its cells
unfoldable pub decider : List ℕ → ℕ
decider line = get_or (after_label line) 0 0

unfoldable pub cells_text : List ℕ → List ℕ
cells_text line = cond (decides (decider line)) (drop 1 (after_label line)) (after_label line)

-- the cells of a line
unfoldable pub cells_of : List ℕ → List (List ℕ)
cells_of line = cells_by (decider line) (cells_text line)

-- A walk over the cells, one after another: the first cell of a text, and what comes after it.
unfoldable pub first_cell_of : ℕ → List ℕ → List ℕ
first_cell_of s text = cell_from (until (among (separators s)) (from_cell s text))

unfoldable pub after_cell : ℕ → List ℕ → List ℕ
after_cell s text = past (among (separators s)) (from_cell s text)

-- whether a cell's number is from least to most
unfoldable pub is_within : ℤ → ℤ → List ℕ → Bool
is_within least most w = le_z least (whole_of w) && le_z (whole_of w) most

-- the tests of a cell: whether it is in its range, or whether it is a whole number
abbrev pub passes : Bool → ℤ → ℤ → List ℕ → Bool
passes ranged least most = cond ranged (is_within least most) is_number
