-- The settings of a hindsight run in a line: words between spaces, tabs, commas and semicolons, each a whole number of millionths. Assumes nothing.
use Rattle.std.specs.Prelude.{ℕ, suc, Bool, cond, List, map}
use Rattle.rules.specs.Lists.{every}
use Rattle.composing.specs.Text.{ascii}
use Rattle.scanning.specs.Parts.{among, fails, before, pieces}
use Rattle.scanning.specs.Numbers.{is_natural, size_from}
use Rattle.cells.specs.Cells.{filled}

-- the most bytes of a line, and the most words in them
abbrev pub most_line : ℕ
most_line = 255

abbrev pub most_words : ℕ
most_words = 128

-- the bytes that separate words
abbrev pub separates : ℕ → Bool
separates = among (ascii " \t,;")

-- the words of a line: the pieces between these bytes that are not empty
unfoldable pub words_of : List ℕ → List (List ℕ)
words_of line = filled (pieces separates line)

-- the place, from 1, of the first word that is no whole number, digits alone; 0 where there is none
unfoldable pub wrong_word : List ℕ → ℕ
wrong_word line = cond (every is_natural (words_of line)) 0 (suc (before (fails is_natural) (words_of line)))

-- the settings: the numbers of the words. One that has reached 10^17 grows no more, and is above the range of a setting
unfoldable pub settings_of : List ℕ → List ℕ
settings_of line = map (size_from 0) (words_of line)
