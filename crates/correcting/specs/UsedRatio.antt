-- What is answered of a ratio that may be corrected. Assumes nothing.
use Rattle.std.specs.Prelude.{ℕ, ◌≡◌, ℤ}
use Rattle.rules.specs.Questions.{first_no, after_call}
use Rattle.rules.specs.Growth.{growth_questions, used_ratio}

-- the number n that questions 15, 16 and 17 of a valuation year answer, of the plain ratio, Y and the divisor; and the ratio r that is used, the plain one on a refusal
abbrev pub RatioAnswers : ℕ → ℕ → ℤ → ℕ → ℕ → ℕ → Type 0
RatioAnswers year plain paid divisor n r = (n ≡ first_no (growth_questions year plain paid divisor)) × (r ≡ after_call n (used_ratio year plain divisor) plain)
