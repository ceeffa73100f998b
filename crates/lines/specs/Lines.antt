-- Lines of a text, each ended by a line feed. Assumes nothing.
use Rattle.std.specs.Prelude.{ℕ, zero, suc, Bool, not, cond, List, [], ◌∷◌, ◌++◌, eqb}
use Rattle.entries.specs.Leading.{passing}

-- lines as one text
unfoldable pub written : List (List ℕ) → List ℕ
written [] = []
written (line ∷ lines) = line ++ (10 ∷ written lines)

-- whether a byte stands in a line
abbrev pub in_line : ℕ → Bool
in_line b = not (eqb b 10)

-- the first line of a text
unfoldable pub first_line : List ℕ → List ℕ
first_line text = passing in_line text

-- a text from its line n on, or another where it has no line n
unfoldable pub from_line : ℕ → List ℕ → List ℕ → List ℕ
from_line n other [] = other
from_line zero other (b ∷ text) = b ∷ text
from_line (suc n) other (b ∷ text) = from_line (cond (eqb b 10) n (suc n)) other text

-- line n of a text, or its first line where it has no line n
unfoldable pub line_of : ℕ → List ℕ → List ℕ
line_of n text = first_line (from_line n text text)
