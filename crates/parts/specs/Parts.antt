-- Parts of the report's two pages, one of HTML and one of plain text, that differ between them: `html` says which page is meant. Assumes nothing.
use Rattle.std.specs.Prelude.{ℕ, Bool, cond, List, [], ◌++◌}
use Rattle.composing.specs.Text.{ascii}

-- x on the page of HTML, y on the page of text
unfoldable pub either : Bool → List ℕ → List ℕ → List ℕ
either html x y = cond html x y

-- x on the page of HTML alone
unfoldable pub only : Bool → List ℕ → List ℕ
only html x = either html x []

-- a heading: on the page of text a line of its own, after an empty line
unfoldable pub heading : Bool → List ℕ → List ℕ
heading html text = either html (ascii "<h2>") (ascii "\n") ++ (text ++ either html (ascii "</h2>\n") (ascii "\n"))

-- a section starts with its heading, its title
unfoldable pub section_head : Bool → List ℕ → List ℕ
section_head html title = only html (ascii "<section>\n") ++ heading html title

unfoldable pub section_end : Bool → List ℕ
section_end html = only html (ascii "</section>\n")

-- parts in a row where there is width
unfoldable pub beside_start : Bool → List ℕ
beside_start html = only html (ascii "<div class=\"p\">\n")

unfoldable pub beside_end : Bool → List ℕ
beside_end html = only html (ascii "</div>\n")
