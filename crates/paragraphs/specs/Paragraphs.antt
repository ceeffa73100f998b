-- Paragraphs that stand on both pages. Their words are given in lines, as they stand on the page of text; on the page of HTML a line feed is a space. Assumes nothing.
use Rattle.std.specs.Prelude.{ℕ, Bool, List, ◌++◌}
use Rattle.composing.specs.Text.{ascii}
use Rattle.titles.specs.Titles.{escaped}
use Rattle.parts.specs.Parts.{either}

-- words of a paragraph
unfoldable pub words : Bool → List ℕ → List ℕ
words html text = either html (escaped text) text

-- how a paragraph starts and ends: on the page of text after an empty line
unfoldable pub paragraph_start : Bool → List ℕ
paragraph_start html = either html (ascii "<p>") (ascii "\n")

unfoldable pub paragraph_end : Bool → List ℕ
paragraph_end html = either html (ascii "</p>\n") (ascii "\n")

-- a paragraph
unfoldable pub paragraph : Bool → List ℕ → List ℕ
paragraph html text = paragraph_start html ++ (words html text ++ paragraph_end html)
