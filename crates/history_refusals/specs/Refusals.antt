-- The refused positions of a history: what each number means that occurs among them. Assumes nothing.
use Rattle.std.specs.Prelude.{ℕ, zero, suc, Bool, false, cond, ◌||◌, List, [], ◌++◌, ℤ}
use Rattle.rules.specs.Lists.{between}
use Rattle.composing.specs.Text.{ascii, decimal}
use Rattle.parts.specs.Parts.{either, only, section_head, section_end}
use Rattle.wording.specs.Wording.{question_text}
use Rattle.history_places.specs.Places.{number_of}

-- whether one of the first n positions has a number from least to most
unfoldable pub some_number : List ℤ → ℕ → ℕ → ℕ → ℕ → Bool
some_number list width least most zero = false
some_number list width least most (suc n) = some_number list width least most n || between least most (number_of list width n)

-- what number q means
unfoldable pub number_text : Bool → ℕ → List ℕ
number_text html q =
    only html (ascii "<p>") ++ (ascii "Refused by question " ++ (decimal q ++ (ascii ": " ++ (question_text q ++ either html (ascii ".</p>\n") (ascii ".\n")))))

-- where it occurs among n positions
unfoldable pub number_line : Bool → List ℤ → ℕ → ℕ → ℕ → List ℕ
number_line html list width n q = cond (some_number list width q q n) (number_text html q) []

-- the section, where a position is refused at all: by questions 7 to 10
unfoldable pub refusals : Bool → List ℤ → ℕ → ℕ → List ℕ
refusals html list width n =
    section_head html (ascii "Refused positions")
    ++ ((number_line html list width n 7 ++ (number_line html list width n 8 ++ (number_line html list width n 9 ++ number_line html list width n 10))) ++ section_end html)

unfoldable pub refusal_section : Bool → List ℤ → ℕ → ℕ → List ℕ
refusal_section html list width n = cond (some_number list width 7 10 n) (refusals html list width n) []
