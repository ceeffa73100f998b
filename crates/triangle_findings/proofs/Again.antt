-- What a record has passed whose run answers 7 or a question after it, and the totals of the square of its averages. Assumes nothing.
use Prim.Native.Nat.{ℕ, ◌≤◌}
use mathlib.Core.Path.{◌≡◌}
use mathlib.Core.List.{List}
use mathlib.Core.Bool.{true}
use lib.IntN.{ℤ}
use Rattle.rules.specs.Questions.{first_no}
use Rattle.rules.specs.Record.{Figures, figures_of}
use Rattle.rules.specs.Reading.{opening_questions, field_questions}
use Rattle.rules.specs.Triangle.{cumulatives_pass, TotalsIn}
use Rattle.rules.specs.Results.{most_entries, square_of}
use Rattle.rules.specs.Engine.{run_answer}
use Rattle.totals.specs.Summed.{Summed}
use Rattle.totals.proofs.Square.{zero_outside}
use Rattle.triangle.proofs.Square.{cells_bounded}
use Rattle.reading.specs.Reading.{Sound}
use Rattle.outcomes.proofs.Passed.{answered, opening, fields, cumulatives}

-- questions 1, 2, 4, 5 and 6
pub late : (year : ℕ) (s : List ℕ) (n : ℕ) → 7 ≤ n → run_answer year s most_entries ≡ n
    → (first_no (opening_questions s) ≡ 0) × ((first_no (field_questions s) ≡ 0) × (cumulatives_pass (figures_of s).k (figures_of s).increments ≡ true))
late year s n l h =
    let run = answered year s n l h in
    (opening year s run, (fields year s run, cumulatives year s run))

-- totals of the square of sound figures
pub summed : (f : Figures) → Sound f → (v d : List ℤ) → TotalsIn (square_of f) v d → Summed (square_of f) f.k v d
unfolding square_of
summed f good v d e = record {
  cells = cells_bounded f.k f.exposures f.increments good.few good.exposures good.increments;
  outside = zero_outside f.k f.exposures f.increments good.few;
  totals = e;
}
