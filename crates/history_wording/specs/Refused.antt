-- What is wrong with a text, of a history or of figures, with the refusal in front where there is one (docs/SHEET.md). Assumes nothing.
use Rattle.std.specs.Prelude.{ℕ, Bool, true, cond, List, [], ◌++◌, eqb, ltb, Result, Ok, Err}
use Rattle.composing.specs.Text.{ascii, decimal}
use Rattle.sheet.specs.Sheet.{Typed, read_history}
use Rattle.sheet_wording.specs.Problem.{problem_text}

-- the refusal where a number of the line due at a place is out of its range: of a history 27 for its years and its width and 28 for the others, of figures 1 for k and 4 for the others
unfoldable pub refusal_at : Bool → ℕ → ℕ
refusal_at history place = cond history (cond (ltb place 2) 27 28) (cond (eqb place 0) 1 4)

-- a refusal in front
unfoldable pub refused_front : ℕ → List ℕ
refused_front n = ascii "refused " ++ (decimal n ++ ascii ": ")

-- that of a problem at a place
unfoldable pub problem_front : Bool → ℕ → ℕ → List ℕ
problem_front history problem place = cond (eqb problem 4) (refused_front (refusal_at history place)) []

-- what is wrong with a text
unfoldable pub wrong_text : Bool → Typed → List ℕ
wrong_text history t = problem_front history t.problem t.place ++ problem_text history t

-- what is said of the text of a history: nothing where nothing is wrong
unfoldable pub history_said : List ℕ → List ℕ
history_said text = cond (eqb (read_history text).problem 0) [] (wrong_text true (read_history text))

-- how many bytes of a message there are: none where all was well
abbrev pub message_bytes : {A : Type 0} → Result A ℕ → ℕ
message_bytes (Ok done) = 0
message_bytes (Err said) = said
