-- Figures as text, written and read (docs/SHEET.md). Assumes nothing.
use Rattle.std.specs.Prelude.{ℕ, suc, ◌+◌, ◌-◌, Bool, true, false, cond, not, ◌&&◌, List, [], ◌∷◌, ◌++◌, map, eqb, ltb, ℤ, pos, nat_abs, length, get_or, take, drop}
use Rattle.rules.specs.Lists.{up_to, every}
use Rattle.rules.specs.Record.{byte_count}
use Rattle.rules.specs.Writing.{given_in, write_answer, write_into}
use Rattle.rules.specs.Inflation.{index_after}
use Rattle.composing.specs.Text.{ascii, integer}
use Rattle.kinds.specs.Kinds.{marked}
use Rattle.scanning.specs.Parts.{among, fails, before, pieces, same_text_of}
use Rattle.scanning.specs.Numbers.{is_number, whole_of}
use Rattle.cells.specs.Cells.{content_of, is_bare, label_of, cells_of, is_within}
use Rattle.inflation_line.specs.declared.Fault.{Fault}
use Rattle.inflation_line.specs.InflationLine.{is_inflation, shape_of, fault, fault_in}
use Rattle.sheet.specs.declared.Due.{Due}
use Rattle.sheet.specs.declared.Wrong.{Wrong}
use Rattle.sheet.specs.Table.{label_due, indices_place, due_lines, lines_in, due_in}

-- Writing.

-- each number after a space
unfoldable pub spaced : List ℤ → List ℕ
spaced [] = []
spaced (v ∷ vs) = 32 ∷ (integer v ++ spaced vs)

-- a line with its label, its numbers and a line feed
unfoldable pub line_of : Due → List ℤ → List ℕ
line_of d vs = label_due d ++ (spaced vs ++ (10 ∷ []))

-- the lines, each with the next of the numbers
unfoldable pub lines_of : List Due → List ℤ → List ℕ
lines_of [] vs = []
lines_of (d ∷ ds) vs = line_of d (take d.count vs) ++ lines_of ds (drop d.count vs)

-- k, the first of the fields of a record; 0 where there is none
abbrev pub last_year_in : List ℤ → ℕ
last_year_in vs = nat_abs (get_or vs 0 (pos 0))

-- the fields of a record as text
unfoldable pub sheet_of : List ℤ → List ℕ
sheet_of vs = lines_of (due_lines (last_year_in vs)) vs

-- Reading.

-- the lines of a text, which a mark at its very start is no part of
unfoldable pub unmarked : List ℕ → List ℕ
unmarked text = cond (marked text) (drop 3 text) text

abbrev pub lines : List ℕ → List (List ℕ)
lines text = pieces (among (ascii "\n")) text

-- a problem, and the number of the cell that it is about, counted from 1
abbrev pub wrong : ℕ → ℕ → Wrong
wrong p c = record { problem = p; cell = c }

-- what is wrong with a line where d is due: 1 another label, 2 a cell that is no whole number, 3 another count (with how many cells there are),
-- 4 a number out of its range; 0 where it is as due
unfoldable pub wrong_in : Due → List ℕ → Wrong
wrong_in d line =
    let cs = cells_of line in
    cond (same_text_of (label_of line) (label_due d))
    (cond (every is_number cs)
    (cond (eqb (length cs) d.count)
    (cond (every (is_within d.least d.most) cs) (wrong 0 0) (wrong 4 (suc (before (fails (is_within d.least d.most)) cs))))
    (wrong 3 (length cs)))
    (wrong 2 (suc (before (fails is_number) cs))))
    (wrong 1 0)

-- the word that a problem is about: the label, or the cell
unfoldable pub word_in : Wrong → List ℕ → List ℕ
word_in w line = cond (eqb w.problem 1) (label_of line) (cond (eqb w.problem 3) [] (get_or (cells_of line) (w.cell - 1) []))

-- what reading comes to: a problem (0 for none), the line of the text, the place of the line due, the cell and the word that the problem is
-- about, and the numbers of the lines that were as due
pub record Typed : Type 0 where
  pub problem : ℕ
  pub line : ℕ
  pub place : ℕ
  pub cell : ℕ
  pub word : List ℕ
  pub numbers : List ℤ

abbrev pub typed : ℕ → ℕ → ℕ → ℕ → List ℕ → List ℤ → Typed
typed p n i c w vs = record { problem = p; line = n; place = i; cell = c; word = w; numbers = vs }

-- so far, without a problem: up to line n of the text, where place i is due next
abbrev pub fine : ℕ → ℕ → List ℤ → Typed
fine n i vs = typed 0 n i 0 [] vs

-- line n of a history, or of figures, held against the line due at place i, after the numbers vs: 6 where none is due any more
unfoldable pub read_line : Bool → ℕ → ℕ → List ℤ → List ℕ → Typed
read_line history n i vs line =
    let k = last_year_in vs in
    let w = wrong_in (due_in history k i) line in
    cond (is_bare line) (fine n i vs)
    (cond (eqb i (lines_in history k)) (typed 6 n i 0 (label_of line) vs)
    (cond (eqb w.problem 0) (fine n (suc i) (vs ++ map whole_of (cells_of line))) (typed w.problem n i w.cell (word_in w line) vs)))

-- whether a line of inflation stands at a place of figures where the indices are due, and makes them
unfoldable pub stands_for_indices : Bool → ℕ → ℕ → List ℕ → Bool
stands_for_indices history k i line = not history && (eqb i (indices_place k) && (is_inflation line && eqb (fault_in (k + 1) line).kind 0))

-- the indices that it makes, one for each of the k + 1 years wanted
unfoldable pub indices_made : ℕ → List ℕ → List ℕ
indices_made k line = up_to (index_after (shape_of line)) (k + 1)

-- line n held against the line due at place i, after the numbers vs, where of figures a line of inflation may stand for the indices
unfoldable pub read_next : Bool → ℕ → ℕ → List ℤ → List ℕ → Typed
read_next history n i vs line =
    let k = last_year_in vs in
    cond (stands_for_indices history k i line) (fine n (suc i) (vs ++ map pos (indices_made k line))) (read_line history n i vs line)

-- the lines of a text, after t; 5 where they end before every line due was there
unfoldable pub read_lines : Bool → Typed → List (List ℕ) → Typed
read_lines history t [] = cond (eqb t.place (lines_in history (last_year_in t.numbers))) t (typed 5 t.line t.place 0 [] t.numbers)
read_lines history t (l ∷ ls) =
    let u = read_next history (suc t.line) t.place t.numbers (content_of l) in
    cond (eqb u.problem 0) (read_lines history u ls) u

-- what reading a text comes to
unfoldable pub read_text : Bool → List ℕ → Typed
read_text history text = read_lines history (fine 0 0 []) (lines (unmarked text))

abbrev pub read_sheet : List ℕ → Typed
read_sheet text = read_text false text

abbrev pub read_history : List ℕ → Typed
read_history text = read_text true text

-- Asking a line of inflation, before anything else of a text but k is.

-- whether a line is one of inflation, or, where that is not wanted, one that is not bare
unfoldable pub is_wanted : Bool → List ℕ → Bool
is_wanted inflation l = cond inflation (is_inflation (content_of l)) (not (is_bare (content_of l)))

-- how many lines come before the first such line, and what that line is; nothing where there is none
unfoldable pub lines_before : Bool → List (List ℕ) → ℕ
lines_before inflation ls = before (is_wanted inflation) ls

unfoldable pub line_wanted : Bool → List (List ℕ) → List ℕ
line_wanted inflation ls = content_of (get_or ls (lines_before inflation ls) [])

-- k of some lines: that of the first that is not bare, where it is as due, and 0 else
unfoldable pub year_asked : List (List ℕ) → ℕ
year_asked ls = last_year_in (read_line false 1 0 [] (line_wanted false ls)).numbers

-- the first line of inflation
abbrev pub inflation_line : List (List ℕ) → List ℕ
inflation_line ls = line_wanted true ls

-- what is wrong with it, where there is a k and such a line; 0 where nothing is
unfoldable pub fault_asked : List (List ℕ) → Fault
fault_asked ls =
    let k = year_asked ls in
    cond (eqb k 0) (fault 0 0) (cond (is_inflation (inflation_line ls)) (fault_in (k + 1) (inflation_line ls)) (fault 0 0))

-- Packing: the record of the figures that a text has.

-- the bytes of the record of these fields
abbrev pub record_size : List ℤ → ℕ
record_size vs = byte_count (last_year_in vs)

-- the refusal that packing a text answers after t: 1 or 4 where a number is out of its range, the writer's where the text is as due, and else 0
unfoldable pub pack_answer : Typed → ℕ
pack_answer t =
    cond (eqb t.problem 0) (write_answer (given_in t.numbers) (record_size t.numbers))
    (cond (eqb t.problem 4) (cond (eqb t.place 0) 1 4) 0)

-- the lent buffer after packing a text: the record and then what it held, and unchanged where the text is not as due or the writer refuses
unfoldable pub pack_into : Typed → List ℕ → List ℕ
pack_into t buffer =
    let n = record_size t.numbers in
    cond (eqb t.problem 0) (write_into (given_in t.numbers) (take n buffer) ++ drop n buffer) buffer

-- what is wrong with the line of inflation of a text
abbrev pub fault_of : List ℕ → Fault
fault_of text = fault_asked (lines (unmarked text))

-- packing a text: the refusal, 20 and 21 first, and the lent buffer afterwards
unfoldable pub packed_answer : List ℕ → ℕ
packed_answer text =
    cond (eqb (fault_of text).kind 0) (pack_answer (read_sheet text))
    (cond (ltb (fault_of text).kind 20) 0 (fault_of text).kind)

unfoldable pub packed_into : List ℕ → List ℕ → List ℕ
packed_into text buffer = cond (eqb (fault_of text).kind 0) (pack_into (read_sheet text) buffer) buffer
