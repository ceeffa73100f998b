-- Texts of the user, as the title: how they stand in a page. Assumes nothing.
use Rattle.std.specs.Prelude.{ℕ, Bool, true, false, cond, List, [], ◌∷◌, map, ltb, eqb}
use Rattle.rules.specs.Lists.{joined}
use Rattle.composing.specs.Text.{ascii}

-- a byte that is no sign, one below 32 or 127, is a space; others stay
unfoldable pub plain_byte : ℕ → ℕ
plain_byte b = cond (ltb b 32) 32 (cond (eqb b 127) 32 b)

-- on the HTML page `&`, `<` and `>` are entities
unfoldable pub escaped_byte : ℕ → List ℕ
escaped_byte b = cond (eqb b 38) (ascii "&amp;") (cond (eqb b 60) (ascii "&lt;") (cond (eqb b 62) (ascii "&gt;") (plain_byte b ∷ [])))

-- a text of the user on the HTML page, and on the text page
unfoldable pub byte_in : Bool → ℕ → List ℕ
byte_in html b = cond html (escaped_byte b) (plain_byte b ∷ [])

unfoldable pub text_in : Bool → List ℕ → List ℕ
text_in html text = joined (map (byte_in html) text)

abbrev pub escaped : List ℕ → List ℕ
escaped text = text_in true text

abbrev pub plain : List ℕ → List ℕ
plain text = text_in false text

-- the title, or `Reserving report` where none is given
unfoldable pub title_in : Bool → List ℕ → List ℕ
title_in html [] = ascii "Reserving report"
title_in html (b ∷ text) = text_in html (b ∷ text)

abbrev pub title_of : List ℕ → List ℕ
title_of text = title_in true text

abbrev pub plain_title : List ℕ → List ℕ
plain_title text = title_in false text
