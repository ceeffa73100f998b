-- A line of inflation in a text of figures (docs/SHEET.md): the label `inflation`, a shape, and the numbers of that shape. Assumes nothing.
use Rattle.std.specs.Prelude.{ℕ, zero, suc, ◌-◌, Bool, true, false, cond, List, [], ◌∷◌, eqb, ltb, length, get_or, Float}
use Rattle.rules.specs.Lists.{between}
use Rattle.rules.specs.Inflation.{rate_fits, inflation_answer}
use Rattle.rules.specs.declared.Inflation.{Inflation}
use Rattle.rules.specs.declared.Inflation.TheVariants.{Flat, Fading, Shock}
use Rattle.entries.specs.Leading.{leading}
use Rattle.inflation.specs.Walk.{years_within}
use Rattle.composing.specs.Text.{ascii}
use Rattle.scanning.specs.Parts.{before, same_text_of}
use Rattle.scanning.specs.Numbers.{is_natural, size_from}
use Rattle.cells.specs.Cells.{label_of, cells_of}
use Rattle.rate_text.specs.RateText.{is_rate, rate_of}
use Rattle.inflation_line.specs.declared.Fault.{Fault}

-- whether a line is one of inflation
unfoldable pub is_inflation : List ℕ → Bool
is_inflation line = same_text_of (label_of line) (ascii "inflation")

-- the shapes in their order, and the place of the one that a line names, 3 where it names none
unfoldable pub shape_names : List (List ℕ)
shape_names = ascii "flat" ∷ ascii "fading" ∷ ascii "shock" ∷ []

unfoldable pub shape_at : List ℕ → ℕ
shape_at line = before (same_text_of (get_or (cells_of line) 0 [])) shape_names

-- how many numbers the shape at a place takes: a flat rate; a rate and a long-run rate; a rate, another and a year
abbrev pub numbers_due : ℕ → ℕ
numbers_due s = suc s

-- number n of a line, counted from 1; the third is a year, the others are rates
abbrev pub number_at : List ℕ → ℕ → List ℕ
number_at line n = get_or (cells_of line) n []

abbrev pub is_year : ℕ → Bool
is_year n = eqb n 3

-- whether number n is of its form
unfoldable pub is_due : ℕ → List ℕ → Bool
is_due n w = cond (is_year n) (is_natural w) (is_rate w)

-- whether number n is one that question 20 says yes to: a rate from −0.5 to 1.0, a year among the years wanted
unfoldable pub is_asked : ℕ → ℕ → List ℕ → Bool
is_asked years n w = cond (is_year n) (between 1 years (size_from 0 w)) (rate_fits (rate_of w))

-- one of the two tests
abbrev pub number_passes : Bool → ℕ → ℕ → List ℕ → Bool
number_passes asked years n w = cond asked (is_asked years n w) (is_due n w)

-- how many of the first m numbers pass it before one does not
unfoldable pub passing_numbers : Bool → ℕ → List ℕ → ℕ → ℕ
passing_numbers asked years line m = leading (λ i. number_passes asked years (suc i) (number_at line (suc i))) m

-- the rates of a line whose numbers are of their form
unfoldable pub shape_from : ℕ → Float → Float → ℕ → Inflation
shape_from zero rate other year = Flat rate
shape_from (suc zero) rate other year = Fading rate other
shape_from (suc (suc s)) rate other year = Shock rate other year

unfoldable pub shape_of : List ℕ → Inflation
shape_of line = shape_from (shape_at line) (rate_of (number_at line 1)) (rate_of (number_at line 2)) (size_from 0 (number_at line 3))

-- a fault, and the number of the line or the year that it is about, counted from 1
abbrev pub fault : ℕ → ℕ → Fault
fault kind about = record { kind = kind; about = about }

-- what is wrong with the rates: the number that question 20 or 21 answers, and which number or year it is about; 0 where they are accepted
unfoldable pub rates_fault : ℕ → List ℕ → Fault
rates_fault years line =
    let number = inflation_answer (shape_of line) years in
    cond (eqb number 20) (fault 20 (suc (passing_numbers true years line (numbers_due (shape_at line)))))
    (cond (eqb number 21) (fault 21 (suc (years_within (shape_of line) years))) (fault 0 0))

-- what is wrong with a line of inflation for this many years: 1 no shape, 2 another count of numbers (with how many there are), 3 a number that is not of its form,
-- 20 or 21 for its rates; 0 where it makes the indices
unfoldable pub fault_in : ℕ → List ℕ → Fault
fault_in years line =
    let m = numbers_due (shape_at line) in
    let good = passing_numbers false years line m in
    cond (eqb (shape_at line) 3) (fault 1 0)
    (cond (eqb (length (cells_of line)) (suc m))
    (cond (ltb good m) (fault 3 (suc good)) (rates_fault years line))
    (fault 2 (length (cells_of line) - 1)))
