-- The numbers of a history that is taken from a text. Assumes nothing.
use Rattle.std.specs.Prelude.{cond, List, [], ℕ, eqb, ℤ}
use Rattle.sheet.specs.Sheet.{read_history}

-- those of a text that is as due; none of another
unfoldable pub history_numbers : List ℕ → List ℤ
history_numbers text = cond (eqb (read_history text).problem 0) (read_history text).numbers []
