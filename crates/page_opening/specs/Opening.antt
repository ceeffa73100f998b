-- The opening of the report: the valuation year, the years of the record, and how long the record is. Assumes nothing.
use Rattle.std.specs.Prelude.{ℕ, ◌+◌, Bool, cond, List, [], ◌++◌, eqb}
use Rattle.composing.specs.Text.{ascii, decimal}
use Rattle.parts.specs.Parts.{either, only}

-- the development years and the units, on the page of HTML
unfoldable pub units_text : ℕ → List ℕ
units_text k =
    ascii ", development years 0 to "
    ++ (decimal k
    ++ ascii ". Amounts are whole units of account as in the record; averages and levels are amounts a claim, with two decimals.")

-- the years of a record whose k is known: origin years from the first on, which is 0 where none is given
unfoldable pub years_text : Bool → ℕ → ℕ → List ℕ
years_text html first k =
    either html (ascii "; origin years ") (ascii ", origin years ")
    ++ (decimal first ++ (ascii " to " ++ (decimal (first + k) ++ cond html (units_text k) [])))

-- the valuation year, and the years where they are known
unfoldable pub valuation_text : Bool → Bool → ℕ → ℕ → ℕ → List ℕ
valuation_text html known year first k =
    either html (ascii "<p>Reserving report by Doonamurk 1.0. Valuation year <b>") (ascii "Doonamurk 1.0, valuation year ")
    ++ (decimal year
    ++ (only html (ascii "</b>")
    ++ (cond known (years_text html first k) (only html (ascii ".")) ++ either html (ascii "</p>\n") (ascii "\n"))))

-- where a first year is given, that the latest payment year is not the valuation year
unfoldable pub other_year : Bool → ℕ → List ℕ
other_year html latest =
    either html (ascii "<p><b>The latest payment year, ") (ascii "The latest payment year, ")
    ++ (decimal latest ++ either html (ascii ", is not the valuation year.</b></p>\n") (ascii ", is not the valuation year.\n"))

unfoldable pub notice : Bool → ℕ → ℕ → ℕ → List ℕ
notice html year first k = cond (eqb first 0) [] (cond (eqb (first + k) year) [] (other_year html (first + k)))

-- how many bytes the record has
unfoldable pub size_text : Bool → ℕ → List ℕ
size_text html bytes =
    either html (ascii "<p>Made from one record of ") (ascii "record of ") ++ (decimal bytes ++ either html (ascii " bytes.</p>\n") (ascii " bytes\n"))

unfoldable pub opening_text : Bool → Bool → ℕ → ℕ → ℕ → ℕ → List ℕ
opening_text html known year first k bytes =
    valuation_text html known year first k ++ (cond known (notice html year first k) [] ++ size_text html bytes)
