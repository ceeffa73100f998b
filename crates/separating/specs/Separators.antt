-- The bytes that separate the cells of a line, and a text from its first cell on. Assumes nothing.
use Rattle.std.specs.Prelude.{ℕ, Bool, cond, List, [], ◌∷◌, ◌++◌}
use Rattle.rules.specs.Lists.{every}
use Rattle.composing.specs.Text.{ascii}
use Rattle.scanning.specs.Parts.{among, fails, from}

-- a comma, a semicolon or a tab right after the label decides for the line: that byte alone separates cells
abbrev pub decides : ℕ → Bool
decides s = among (ascii ",;\t") s

-- the bytes that separate cells where s comes after the label: s alone, or else spaces and tabs
unfoldable pub separators : ℕ → List ℕ
separators s = cond (decides s) (s ∷ s ∷ []) (ascii " \t")

-- whether no cell is left in a text: nothing but separators, spaces and quotes
unfoldable pub is_over : ℕ → List ℕ → Bool
is_over s text = every (among (separators s ++ ascii " \"")) text

-- a text from its first cell on
unfoldable pub from_cell : ℕ → List ℕ → List ℕ
from_cell s text = cond (is_over s text) [] (cond (decides s) text (from (fails (among (separators s))) text))
