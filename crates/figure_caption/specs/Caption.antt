-- How wide a plot is, and the title above it with the legend. Its words are lines of one text: 0 the title, 3 and 4 the words of the dark and of the light bars in the
-- legend, or none. Assumes nothing.
use Rattle.std.specs.Prelude.{ℕ, ◌+◌, ◌*◌, ◌/◌, max, cond, List, [], ◌∷◌, ◌++◌, eqb, length}
use Rattle.composing.specs.Text.{ascii}
use Rattle.lines.specs.Lines.{line_of}
use Rattle.shapes.specs.Shapes.{numbered}

-- how wide a plot of n slots is, and the least that it may be drawn at
unfoldable pub wide_of : ℕ → ℕ
wide_of n = max 300 (56 + 30 * n)

unfoldable pub least_of : ℕ → ℕ
least_of n = 2 * wide_of n / 3

-- the marks of dark and of light bars, a and b
abbrev pub dark : ℕ
dark = 97

abbrev pub light : ℕ
light = 98

-- a mark and its word in the legend, or nothing without a word
unfoldable pub legend : ℕ → List ℕ → List ℕ
legend mark word = cond (eqb (length word) 0) [] (ascii " <b class=\"" ++ ((mark ∷ []) ++ (ascii "\"></b> " ++ word)))

-- the title above the plot, with the legend
unfoldable pub caption : List ℕ → ℕ → List ℕ
caption words n =
    numbered (ascii "<figure style=\"flex-basis:") (least_of n)
    ++ (ascii "px\"><figcaption>" ++ (line_of 0 words ++ (legend dark (line_of 3 words) ++ (legend light (line_of 4 words) ++ ascii "</figcaption>\n"))))
