-- The section of the rates of a line of inflation that make the indices: in words by their shape, the rates as they were typed. Assumes nothing.
use Rattle.std.specs.Prelude.{ℕ, zero, suc, ◌+◌, Bool, List, [], ◌∷◌, ◌++◌, take}
use Rattle.composing.specs.Text.{ascii, decimal}
use Rattle.scanning.specs.Numbers.{size_from}
use Rattle.titles.specs.Titles.{text_in}
use Rattle.parts.specs.Parts.{section_head, section_end}
use Rattle.paragraphs.specs.Paragraphs.{words, paragraph_start, paragraph_end}
use Rattle.inflation_line.specs.InflationLine.{shape_at, number_at}

-- the most bytes of a rate: fifteen digits, a point and a minus sign
abbrev pub most_typed : ℕ
most_typed = 17

-- number n of a line, a rate, as it was typed
unfoldable pub typed_rate : Bool → List ℕ → ℕ → List ℕ
typed_rate html line n = text_in html (take most_typed (number_at line n))

-- one flat rate
unfoldable pub flat_words : Bool → List ℕ → List ℕ
flat_words html line = words html (ascii "The indices are made from one flat rate of inflation, ") ++ typed_rate html line 1

-- the rate of the other shapes
unfoldable pub rate_words : Bool → List ℕ → List ℕ
rate_words html line = words html (ascii "The indices are made from a rate of inflation of ") ++ typed_rate html line 1

-- one that moves toward a long-run rate
unfoldable pub fading_words : Bool → List ℕ → List ℕ
fading_words html line =
    rate_words html line ++ (words html (ascii " that moves halfway each year toward a long-run rate of ") ++ typed_rate html line 2)

-- one in a year with another in the others: a future year is called as in the table of the indices, year t being first + k + t
unfoldable pub shock_year : ℕ → ℕ → List ℕ → ℕ
shock_year first k line = first + k + size_from 0 (number_at line 3)

unfoldable pub shock_words : Bool → ℕ → ℕ → List ℕ → List ℕ
shock_words html first k line =
    rate_words html line
    ++ (words html (ascii " in future year ")
    ++ (decimal (shock_year first k line) ++ (words html (ascii " and of ") ++ (typed_rate html line 2 ++ words html (ascii " in the others")))))

-- the words of the shape at a place
unfoldable pub shape_words : Bool → ℕ → ℕ → List ℕ → ℕ → List ℕ
shape_words html first k line zero = flat_words html line
shape_words html first k line (suc zero) = fading_words html line
shape_words html first k line (suc (suc s)) = shock_words html first k line

-- how an index comes from the path that the rates make
abbrev pub nearest_words : List ℕ
nearest_words = ascii ".\nEach is the whole number nearest to the path in millionths, a half going up."

unfoldable pub rates_paragraph : Bool → ℕ → ℕ → List ℕ → List ℕ
rates_paragraph html first k line =
    paragraph_start html ++ (shape_words html first k line (shape_at line) ++ (words html nearest_words ++ paragraph_end html))

-- the section, none without a line
unfoldable pub rates_section : Bool → ℕ → ℕ → List ℕ → List ℕ
rates_section html first k [] = []
rates_section html first k (b ∷ bs) = section_head html (ascii "Inflation") ++ (rates_paragraph html first k (b ∷ bs) ++ section_end html)
