-- What a routine that asks questions answers, and what it leaves in a lent buffer. Assumes nothing.
use Rattle.std.specs.Prelude.{ℕ, ◌≡◌, Bool, List}
use Rattle.rules.specs.Questions.{first_no, after_call}

-- a routine that asks the questions qs answers n, and leaves what is written where every answer is yes, and what was held on a refusal
abbrev pub AnswersWith : {A : Type 0} → List (ℕ × Bool) → A → A → A → ℕ → Type 0
AnswersWith qs written held left n = (n ≡ first_no qs) × (left ≡ after_call (first_no qs) written held)
