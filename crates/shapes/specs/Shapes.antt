-- Lines, bars and labels of a plot at given places, as SVG. Assumes nothing.
use Rattle.std.specs.Prelude.{ℕ, ◌+◌, List, [], ◌∷◌, ◌++◌, ℤ}
use Rattle.composing.specs.Text.{ascii, decimal}
use Rattle.numerals.specs.Numerals.{spaced}

-- words and a number behind them
unfoldable pub numbered : List ℕ → ℕ → List ℕ
numbered words n = words ++ decimal n

-- a line across a plot of this width, y from the top, and where its number stands
unfoldable pub tick_line : ℕ → ℕ → List ℕ
tick_line wide y = numbered (ascii "<path d=\"M50 ") y ++ (numbered (ascii "H") wide ++ numbered (ascii "\"/><text x=\"46\" y=\"") (y + 4))

-- a bar with its left upper corner at x and y
unfoldable pub shape : ℕ → ℕ → ℕ → ℕ → ℕ → List ℕ
shape mark x y w height =
    ascii "<rect class=\""
    ++ ((mark ∷ [])
    ++ (numbered (ascii "\" x=\"") x
    ++ (numbered (ascii "\" y=\"") y ++ (numbered (ascii "\" width=\"") w ++ (numbered (ascii "\" height=\"") height ++ ascii "\">")))))

-- what a bar is of, shown where the pointer rests on it
unfoldable pub told : ℕ → ℕ → ℤ → List ℕ
told label d z = numbered (ascii "<title>") label ++ (ascii ": " ++ (spaced d z ++ ascii "</title></rect>\n"))

-- the label of a slot, x its middle
unfoldable pub slot_label : ℕ → ℕ → ℕ → List ℕ
slot_label x y label = numbered (ascii "<text class=\"m\" x=\"") x ++ (numbered (ascii "\" y=\"") y ++ (numbered (ascii "\">") label ++ ascii "</text>\n"))
