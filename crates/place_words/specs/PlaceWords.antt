-- The words of a place where a question says no; origin and payment years are counted from the first year. Assumes nothing.
use Rattle.std.specs.Prelude.{ℕ, ◌+◌, cond, List, [], ◌∷◌, ◌++◌, eqb, get_or}
use Rattle.composing.specs.Text.{ascii, decimal}
use Rattle.finding.specs.Places.{origin_year, development_year, payment_year, cell, field}

-- an origin year, a development year, a payment year, a cell, and the number of an index, from 1 on
unfoldable pub origin_text : ℕ → ℕ → List ℕ
origin_text first row = ascii "origin year " ++ decimal (first + row)

unfoldable pub development_text : ℕ → List ℕ
development_text column = ascii "development year " ++ decimal column

unfoldable pub payment_text : ℕ → ℕ → List ℕ
payment_text first row = ascii "payment year " ++ decimal (first + row)

unfoldable pub cell_text : ℕ → ℕ → ℕ → List ℕ
cell_text first row column = origin_text first row ++ (ascii ", " ++ development_text column)

unfoldable pub index_text : ℕ → List ℕ
index_text row = decimal (row + 1)

-- the kinds of fields, by their rows in the record's layout; places that are no fields have none
unfoldable pub field_texts : List (List ℕ)
field_texts =
    []
    ∷ []
    ∷ []
    ∷ []
    ∷ []
    ∷ ascii "exposure of "
    ∷ ascii "paid increment of "
    ∷ ascii "index e_"
    ∷ ascii "reporting share of "
    ∷ ascii "reporting weight"
    ∷ ascii "ULAE total of "
    ∷ ascii "amount still to be paid for the first origin year"
    ∷ []

unfoldable pub field_text : ℕ → List ℕ
field_text place = get_or field_texts place []

-- the years of a place: of a field those of its kind
unfoldable pub years_text : ℕ → ℕ → ℕ → ℕ → List ℕ
years_text first place row column =
    cond (eqb place origin_year) (origin_text first row)
    (cond (eqb place development_year) (development_text column)
    (cond (eqb place payment_year) (payment_text first row)
    (cond (eqb place cell) (cell_text first row column)
    (cond (eqb place (field + 1)) (origin_text first row)
    (cond (eqb place (field + 2)) (cell_text first row column)
    (cond (eqb place (field + 3)) (index_text row)
    (cond (eqb place (field + 4)) (development_text column)
    (cond (eqb place (field + 6)) (payment_text first row) []))))))))

unfoldable pub place_text : ℕ → ℕ → ℕ → ℕ → List ℕ
place_text first place row column = field_text place ++ years_text first place row column
