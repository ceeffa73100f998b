-- A plot's figure around what stands in it. Its words are lines of one text: 0 the title, 1 the description, 2 a word for the axis or none, 3 and 4 the words
-- of the dark and of the light bars in the legend, or none. Assumes nothing.
use Rattle.std.specs.Prelude.{ℕ, ◌+◌, List, ◌++◌, length}
use Rattle.composing.specs.Text.{ascii}
use Rattle.lines.specs.Lines.{line_of}
use Rattle.shapes.specs.Shapes.{numbered}
use Rattle.figure_caption.specs.Caption.{wide_of, least_of, caption}
use Rattle.axis_words.specs.AxisWords.{unit_word, word_gap}

-- the plot's sizes
unfoldable pub canvas : ℕ → ℕ → List ℕ
canvas n foot =
    numbered (ascii "<svg role=\"img\" viewBox=\"0 0 ") (wide_of n)
    ++ (numbered (ascii " ") (foot + 24)
    ++ (numbered (ascii "\" style=\"min-width:") (least_of n) ++ (numbered (ascii "px;max-width:") (wide_of n) ++ ascii "px\">\n")))

-- title and description for those who do not see it
unfoldable pub description : List ℕ → List ℕ
description words = ascii "<title>" ++ (line_of 0 words ++ (ascii "</title>\n<desc>" ++ (line_of 1 words ++ ascii "</desc>\n")))

-- what the axis is in: the unit, then the word for the axis, a space between
unfoldable pub axis_text : ℕ → List ℕ → List ℕ
axis_text unit word = unit_word unit ++ (word_gap unit (length word) ++ word)

unfoldable pub axis_label : List ℕ → ℕ → List ℕ
axis_label words unit = ascii "<text class=\"l\" x=\"0\" y=\"12\">" ++ (axis_text unit (line_of 2 words) ++ ascii "</text>\n")

-- all before the ticks, and all after the slots: the line at zero is drawn over the bars
unfoldable pub figure_start : List ℕ → ℕ → ℕ → ℕ → List ℕ
figure_start words n foot unit = caption words n ++ (canvas n foot ++ (description words ++ axis_label words unit))

unfoldable pub figure_end : ℕ → ℕ → List ℕ
figure_end n line = numbered (ascii "<path class=\"z\" d=\"M50 ") line ++ (numbered (ascii "H") (wide_of n) ++ ascii "\"/>\n</svg></figure>\n")
