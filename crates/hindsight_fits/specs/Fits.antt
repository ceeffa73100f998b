-- The fit of the step of last year h over rows of averages: the mark, the latest level, and the shares. Assumes nothing.
use Rattle.std.specs.Prelude.{ℕ, List, ℤ, get_or}
use Rattle.rules.specs.Separation.{separate_answer, separated}
use Rattle.totals.specs.Squares.{cut_of}

unfoldable pub fit_mark : List (List ℤ) → ℕ → ℕ
fit_mark rows h = separate_answer (cut_of rows 0 h) h

unfoldable pub fit_level : List (List ℤ) → ℕ → ℕ
fit_level rows h = get_or (separated (cut_of rows 0 h) h).levels h 0

unfoldable pub fit_shares : List (List ℤ) → ℕ → List ℕ
fit_shares rows h = (separated (cut_of rows 0 h) h).shares
