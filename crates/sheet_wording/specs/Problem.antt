-- What is wrong with a text of figures, in words (docs/SHEET.md). Assumes nothing.
use Rattle.std.specs.Prelude.{ℕ, Bool, cond, List, [], ◌∷◌, ◌++◌, eqb, get_or, length, take}
use Rattle.composing.specs.Text.{ascii, decimal, integer}
use Rattle.sheet.specs.declared.Due.{Due}
use Rattle.sheet.specs.Table.{label_due, due_in}
use Rattle.sheet.specs.Sheet.{Typed, last_year_in}

-- a word of the text
unfoldable pub named : List ℕ → List ℕ
named w = ascii "`" ++ (w ++ ascii "`")

-- a cell, which may be empty
unfoldable pub cell_text : List ℕ → List ℕ
cell_text w = cond (eqb (length w) 0) (ascii "an empty cell") (named w)

-- what each number of a line may be
unfoldable pub range_text : Due → List ℕ
range_text d = ascii ", and a whole number from " ++ (integer d.least ++ (ascii " to " ++ (integer d.most ++ ascii " is due")))

-- number c of the line, which is w
unfoldable pub number_text : Due → ℕ → List ℕ → List ℕ
number_text d c w = ascii "number " ++ (decimal c ++ (ascii " of " ++ (named (label_due d) ++ (ascii " is " ++ (cell_text w ++ range_text d)))))

-- how many numbers the line takes, and how many stand there
unfoldable pub count_text : Due → ℕ → List ℕ
count_text d c =
    named (label_due d)
    ++ (ascii " takes "
    ++ (decimal d.count
    ++ (cond (eqb d.count 1) (ascii " number, and ") (ascii " numbers, and ") ++ (decimal c ++ cond (eqb c 1) (ascii " stands there") (ascii " stand there")))))

-- where the indices are due, a line of inflation may stand for them
unfoldable pub or_inflation : Due → List ℕ
or_inflation d = cond (eqb d.row 3) (ascii " or `inflation`") []

-- the words of the problems 1 to 6 of `read_text`, where d is due, about cell c and the word w
unfoldable pub problem_words : Due → ℕ → List ℕ → List (List ℕ)
problem_words d c w =
    []
    ∷ (ascii "a line that starts with " ++ (named (label_due d) ++ ((or_inflation d ++ ascii " is due, not with ") ++ named w)))
    ∷ number_text d c w
    ∷ count_text d c
    ∷ number_text d c w
    ∷ (ascii "the text ends where " ++ (named (label_due d) ++ (or_inflation d ++ ascii " is due")))
    ∷ (named w ++ ascii " stands where the text should end: there is more than the figures call for")
    ∷ []

-- a line of words for a problem in line n of the text
unfoldable pub problem_line : ℕ → ℕ → Due → ℕ → List ℕ → List ℕ
problem_line p n d c w = ascii "line " ++ (decimal n ++ (ascii ": " ++ (get_or (problem_words d c w) p [] ++ ascii "\n")))

-- what is wrong with a text, of a history or of figures; of the word the first 20 bytes
unfoldable pub problem_text : Bool → Typed → List ℕ
problem_text history t = problem_line t.problem t.line (due_in history (last_year_in t.numbers) t.place) t.cell (take 20 t.word)
