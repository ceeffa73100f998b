-- Every year of which question 8 says no, by the lists t of T_h and v of the columns' totals: a section of the page that the question refuses. Assumes nothing.
use Rattle.std.specs.Prelude.{ℕ, zero, suc, ◌≤◌, Bool, false, cond, List, [], ◌∷◌, ◌++◌, map, ℤ, pos, nat_abs, ◌-ℤ◌, length, get_or, replicate}
use Rattle.rules.specs.Lists.{up_to, joined, padded}
use Rattle.rules.specs.Triangle.{column_total, corner_total}
use Rattle.composing.specs.Text.{ascii, decimal}
use Rattle.parts.specs.Parts.{section_head, section_end}
use Rattle.paragraphs.specs.Paragraphs.{paragraph}
use Rattle.table_cells.specs.Cells.{most_places, plain, styled}
use Rattle.table_heads.specs.declared.Shape.{Shape}
use Rattle.table.specs.Table.{table}
use Rattle.triangle_findings.specs.TriangleFindings.{rest_passes_of, most_corner}

-- T_h − v_h
abbrev pub left_of : List ℤ → List ℤ → ℕ → ℤ
left_of t v h = get_or t h (pos 0) -ℤ get_or v h (pos 0)

-- no entry of t is larger than a wide limit, below which all stays within 64 bits
abbrev pub CornersSmall : List ℤ → Type 0
CornersSmall t = (h : ℕ) → nat_abs (get_or t h (pos 0)) ≤ most_corner

-- whether question 8 says yes of year h
abbrev pub passes_year : List ℤ → List ℤ → ℕ → Bool
passes_year t v h = rest_passes_of (λ i. get_or t i (pos 0)) (λ i. get_or v i (pos 0)) h

-- the years from 1 to k of which it says no
unfoldable pub refused_years : List ℤ → List ℤ → ℕ → List ℕ
refused_years t v zero = []
refused_years t v (suc h) = refused_years t v h ++ cond (passes_year t v (suc h)) [] (suc h ∷ [])

-- the row of a year: its label, a line, and T_h, v_h and what is left
unfoldable pub year_label : ℕ → List ℕ
year_label h = decimal h ++ ascii "\n"

unfoldable pub year_values : List ℤ → List ℤ → ℕ → List ℤ
year_values t v h = get_or t h (pos 0) ∷ get_or v h (pos 0) ∷ left_of t v h ∷ []

-- what year h adds to the labels, the rows and the values
unfoldable pub label_where : List ℤ → List ℤ → ℕ → List ℕ
label_where t v h = cond (passes_year t v h) [] (year_label h)

unfoldable pub row_where : List ℤ → List ℤ → ℕ → ℕ
row_where t v h = cond (passes_year t v h) 0 1

unfoldable pub values_where : List ℤ → List ℤ → ℕ → List ℤ
values_where t v h = cond (passes_year t v h) [] (year_values t v h)

-- the labels of those years in sixteen places of three bytes, and their values
abbrev pub most_labels : ℕ
most_labels = 48

unfoldable pub year_labels : List ℤ → List ℤ → ℕ → List ℕ
year_labels t v k = joined (map year_label (refused_years t v k))

unfoldable pub all_values : List ℤ → List ℤ → ℕ → List ℤ
all_values t v k = joined (map (year_values t v) (refused_years t v k))

abbrev pub year_shape : ℕ → Shape
year_shape rows = record { rows = rows; columns = 3; years = 0; from = 0 }

abbrev pub year_words : List ℕ
year_words = ascii "Development years of which question 8 says no\ndevelopment year\nT_h\nv_h\nT_h less v_h\n"

unfoldable pub year_table : Bool → List ℤ → List ℤ → ℕ → List ℕ
year_table html t v k =
    table html false year_words (padded most_labels 0 (year_labels t v k)) [] (year_shape (length (refused_years t v k))) (padded most_places (pos 0) (all_values t v k))
    (replicate most_places (styled plain 2))

abbrev pub year_text : List ℕ
year_text = ascii "T_h less v_h is the total of the averages in the development years before h, without those of the h earliest payment\nyears. In an exact solution it is the running share up to the year before h times the sum of the levels without the h\nearliest: where it is not above zero, at least one of the two is not. Below is every development year h of which\nquestion 8 says no."

unfoldable pub year_section : Bool → List ℤ → List ℤ → ℕ → List ℕ
year_section html t v k =
    section_head html (ascii "Every development year with nothing left") ++ (paragraph html year_text ++ (year_table html t v k ++ section_end html))

-- of a square q of averages of the years 0 to k
unfoldable pub rest_section : Bool → List (List ℤ) → ℕ → List ℕ
rest_section html q k = year_section html (up_to (corner_total q) 16) (up_to (column_total q) 16) k
