-- Text that stands in an element and cannot end it or begin another. Assumes nothing.
use Rattle.std.specs.Prelude.{ℕ, Bool, true, false, not, cond, ◌&&◌, ◌||◌, List, [], ◌∷◌, eqb}
use Rattle.composing.specs.Text.{ascii}

-- whether a text begins with another
unfoldable pub begins : List ℕ → List ℕ → Bool
begins [] text = true
begins (x ∷ xs) [] = false
begins (x ∷ xs) (b ∷ text) = eqb x b && begins xs text

-- whether a text begins with one of the three entities
unfoldable pub entity_first : List ℕ → Bool
entity_first text = begins (ascii "&amp;") text || (begins (ascii "&lt;") text || begins (ascii "&gt;") text)

-- whether a text has no `<` and no `>`, and each `&` in it begins one of the three
unfoldable pub element_text : List ℕ → Bool
element_text [] = true
element_text (b ∷ text) = (not (eqb b 60) && not (eqb b 62)) && (cond (eqb b 38) (entity_first (b ∷ text)) true && element_text text)
