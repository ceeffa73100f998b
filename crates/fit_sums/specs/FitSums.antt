-- The sums of the averages and of the gaps in words. Assumes nothing.
use Rattle.std.specs.Prelude.{ℕ, Bool, List, ◌++◌, ℤ}
use Rattle.composing.specs.Text.{ascii, fixed}
use Rattle.numerals.specs.Numerals.{number}
use Rattle.parts.specs.Parts.{either}

-- hundredths, with two decimals
unfoldable pub hundredths : Bool → ℤ → List ℕ
hundredths html z = either html (number 2 z) (fixed 2 z)

-- the sum of the averages and that of the sizes of the gaps
unfoldable pub fit_sums : Bool → ℤ → ℤ → List ℕ
fit_sums html averages gaps =
    either html (ascii "<p>All averages add up to ") (ascii "\nAll averages add up to ")
    ++ (hundredths html averages
    ++ (either html (ascii " a claim, the sizes of observed less fitted to <b>") (ascii " a claim, the sizes of observed less fitted to ")
    ++ (hundredths html gaps ++ either html (ascii "</b>.</p>\n") (ascii ".\n"))))
