-- What refusal 8 says of a triangle of averages s of the years 0 to k that is given an answer (document 02, "Refusal 8 as a fact about the triangle").
-- Assumes nothing.
use Rattle.std.specs.Prelude.{ℕ, ◌<◌, true, ◌≡◌, List, ℤ}
use Rattle.rules.specs.Packing.{Fit}
use Rattle.rules.specs.Questions.{first_no, questions_before}
use Rattle.rules.specs.Record.{figures_of}
use Rattle.rules.specs.Triangle.{column_total, diagonal_total, ZeroOutside}
use Rattle.rules.specs.Separation.{totals_pass, separate_answer}
use Rattle.rules.specs.Exact.{Solves}
use Rattle.rules.specs.Results.{square_of}
use Rattle.rules.specs.Engine.{questions, run_answer}
use Rattle.rules.specs.Positive.{Positive, Separable, Same, Products}

pub record Eight (s : List (List ℤ)) (k answer : ℕ) : Type 0 where
  -- 8 is given if and only if Taylor's equations have no exact solution with the named sums positive
  pub refused : answer ≡ 8 → Separable s k → ⊥
  pub none : (Separable s k → ⊥) → answer ≡ 8
  -- where 8 is not given there is one
  pub some : (answer ≡ 8 → ⊥) → Separable s k
  -- where there is one, it is the only exact solution, whatever the signs of the other
  pub only : (D E : ℕ) (r l : ℕ → ℤ) → Solves k D E (column_total s) (diagonal_total s) r l → Positive k r l
      → (F G : ℕ) (x y : ℕ → ℤ) → Solves k F G (column_total s) (diagonal_total s) x y → Same k D E r l F G x y
  -- averages that are exactly share times level, the named sums positive, have those as their solution, and 8 is not given
  pub products : (D E : ℕ) (r l : ℕ → ℤ) → Products k D E r l s → Positive k r l
      → Solves k D E (column_total s) (diagonal_total s) r l × (answer ≡ 8 → ⊥)

-- of every square of averages, zero outside the triangle of the years 0 to k, that has passed question 7: by the separation's answer
abbrev pub OfSeparations : Type 0
OfSeparations = (s : List (List ℤ)) (k : ℕ) → k < 16 → ZeroOutside s k → totals_pass s k ≡ true → Eight s k (separate_answer s k)

-- of every record of bytes that has passed the questions before 8, by place: by the answer of a run in any valuation year, with a result buffer of any m entries
abbrev pub OfRecords : Type 0
OfRecords = (year : ℕ) (s : List ℕ) (m : ℕ) → Fit 8 s → first_no (questions_before 8 (questions year s m)) ≡ 0
    → Eight (square_of (figures_of s)) (figures_of s).k (run_answer year s m)

-- of every record that is given 8, which passes the questions before it: it has no such solution
abbrev pub OfRefusals : Type 0
OfRefusals = (year : ℕ) (s : List ℕ) (m : ℕ) → Fit 8 s → run_answer year s m ≡ 8
    → (first_no (questions_before 8 (questions year s m)) ≡ 0) × (Separable (square_of (figures_of s)) (figures_of s).k → ⊥)
