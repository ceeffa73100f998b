-- The figures as the engine holds them, each list in its array, what it has shown of them up to the separation and the tail, and what it answers and leaves.
-- Assumes nothing.
use Rattle.std.specs.Prelude.{ℕ, ◌≡◌, Bool, true, List, ℤ}
use Rattle.std.proofs.lemmas.List.Edits.{sets}
use Rattle.rules.specs.Questions.{first_no, after_call}
use Rattle.rules.specs.Record.{Figures}
use Rattle.rules.specs.Triangle.{cumulatives_pass}
use Rattle.rules.specs.Separation.{separate_answer}
use Rattle.rules.specs.Tail.{tail_questions}
use Rattle.rules.specs.Results.{square_of, factors_in, first_tail_average_of, paid_in, tails_in, development_in, results_of}
use Rattle.rules.specs.Engine.{development_passes}
use Rattle.reading.specs.Reading.{Sound}

-- figures whose development factors and separation were accepted: their square s, the development factors m, the paid cumulatives c, the shares r and the levels l
pub record Separated (f : Figures) (s : List (List ℤ)) (m c r l : List ℕ) : Type 0 where
  pub sound : Sound f
  pub cumulatives : cumulatives_pass f.k f.increments ≡ true
  pub square : s ≡ square_of f
  pub development : development_passes f ≡ true
  pub factors : m ≡ development_in f
  pub paid : c ≡ paid_in f
  pub accepted : separate_answer (square_of f) f.k ≡ 0
  pub shares : r ≡ (factors_in f).shares
  pub levels : l ≡ (factors_in f).levels

-- figures whose questions 18 and 19 have said yes, and their tail payments z
pub record Tailed (f : Figures) (z : List ℕ) : Type 0 where
  pub passed : first_no (tail_questions f.k (first_tail_average_of f) f.indices) ≡ 0
  pub tails : z ≡ tails_in f

-- the buffer that held `out` with the result list of the figures f in a valuation year
abbrev pub filled : ℕ → Figures → List ℤ → List ℤ
filled year f out = sets out 0 (results_of year f)

-- what a function that asks the questions qs of a valuation year and the figures f answers, n, and leaves in the buffer that held `out`
abbrev pub Answers : List (ℕ × Bool) → ℕ → Figures → List ℤ → List ℤ → ℕ → Type 0
Answers qs year f out left n = (n ≡ first_no qs) × (left ≡ after_call (first_no qs) (sets out 0 (results_of year f)) out)
