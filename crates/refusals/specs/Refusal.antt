-- The words of a refusal of the record s: of questions 7 and 13 their reason, of the others those of the question. Assumes nothing.
use Rattle.std.specs.Prelude.{ℕ, ◌≡◌, true, false, cond, List, ◌++◌, eqb}
use Rattle.rules.specs.Questions.{first_no}
use Rattle.rules.specs.Record.{figures_of}
use Rattle.rules.specs.Reading.{opening_questions, field_questions}
use Rattle.rules.specs.Triangle.{cumulatives_pass, column_total, diagonal_total}
use Rattle.rules.specs.Ladder.{developed, base}
use Rattle.rules.specs.Results.{square_of}
use Rattle.rules.specs.Engine.{development_passes}
use Rattle.composing.specs.Text.{ascii, decimal}
use Rattle.wording.specs.Wording.{question_text}
use Rattle.refusal_reasons.specs.RefusalReasons.{totals_reason, development_reason}

-- that the record has passed questions 1, 2, 4, 5 and 6, as any has that question 7 or 13 refuses
abbrev pub PassedToSix : List ℕ → Type 0
PassedToSix s =
    (first_no (opening_questions s) ≡ 0) × ((first_no (field_questions s) ≡ 0) × (cumulatives_pass (figures_of s).k (figures_of s).increments ≡ true))

-- that question 13 says no of it
abbrev pub NoDevelopment : List ℕ → Type 0
NoDevelopment s = development_passes (figures_of s) ≡ false

-- what is so where n is the answer of the record's run
abbrev pub Refused : List ℕ → ℕ → Type 0
Refused s n = (n ≡ 7 → PassedToSix s) × (n ≡ 13 → PassedToSix s × NoDevelopment s)

-- the reasons of 7 and of 13
unfoldable pub totals_of : List ℕ → List ℕ
totals_of s =
    let q = square_of (figures_of s) in
    totals_reason (column_total q) (diagonal_total q) (figures_of s).k

unfoldable pub development_of : List ℕ → List ℕ
development_of s =
    let f = figures_of s in
    development_reason (developed f.k f.increments) (base f.k f.increments) f.k

-- the words of question n
unfoldable pub words_of : List ℕ → ℕ → List ℕ
words_of s n = cond (eqb n 7) (totals_of s) (cond (eqb n 13) (development_of s) (question_text n))

-- its line
unfoldable pub refusal_of : List ℕ → ℕ → List ℕ
refusal_of s n = ascii "refused " ++ (decimal n ++ (ascii ": " ++ (words_of s n ++ ascii "\n")))
