-- The section of the ULAE reserve: how the ratio is found, without a correction for growth or with it. Assumes nothing.
use Rattle.std.specs.Prelude.{ℕ, Bool, false, cond, List, [], ◌∷◌, ◌++◌, ℤ}
use Rattle.composing.specs.Text.{ascii}
use Rattle.parts.specs.Parts.{only, section_head, section_end}
use Rattle.table_heads.specs.declared.Shape.{Shape}
use Rattle.summary_figures.specs.Summary.{ulae_at, paid_at, plain_ratio_at, reported_at, latest_paid_at, divisor_at, used_ratio_at}
use Rattle.picked_table.specs.Picked.{Cell, amount, millionths, ratio, places_of, kinds_of, picked_table}

-- the paragraph, on the page of HTML alone; its end says which ratio is used
abbrev pub method_text : List ℕ
method_text =
    ascii "<p>The New York method takes a ratio of unallocated expenses to payments and applies it, by the weight, to what is not reported and, by the rest of the weight, to the provision. "

unfoldable pub used_text : Bool → List ℕ
used_text corrected =
    cond
    corrected
    (ascii "From valuation year 2027 the ratio is corrected for growth; earlier valuations use the plain one.</p>\n")
    (ascii "The plain ratio is used; from valuation year 2027 on it is corrected for growth.</p>\n")

-- the cells of the table, a line for each row
unfoldable pub ratio_rows : List (List Cell)
ratio_rows =
    (amount ulae_at ∷ [])
    ∷ (amount paid_at ∷ [])
    ∷ (ratio plain_ratio_at ∷ [])
    ∷ (amount reported_at ∷ [])
    ∷ (amount latest_paid_at ∷ [])
    ∷ (millionths divisor_at ∷ [])
    ∷ (ratio used_ratio_at ∷ [])
    ∷ []

-- the table: its words, its labels and its shape
abbrev pub ratio_words : List ℕ
ratio_words = ascii "The ratio\nfigure\nvalue\n"

abbrev pub ratio_labels : List ℕ
ratio_labels =
    ascii "ULAE paid, all payment years\nPaid, all payment years\nRatio, plain: the first by the second\nReported in the latest year, at ultimate cost\nPaid in the latest year\nDivisor for growth\nRatio, corrected: plain by divisor, used\n"

-- the first three rows, or all seven with the correction
unfoldable pub rows_shown : Bool → ℕ
rows_shown corrected = cond corrected 7 3

abbrev pub ratio_shape : Bool → Shape
ratio_shape corrected = record { rows = rows_shown corrected; columns = 1; years = 0; from = 0 }

unfoldable pub ratio_table : Bool → Bool → List ℤ → List ℕ
ratio_table html corrected figures = picked_table html false ratio_words ratio_labels (ratio_shape corrected) figures (places_of ratio_rows) (kinds_of ratio_rows)

-- the section
unfoldable pub expense_section : Bool → Bool → List ℤ → List ℕ
expense_section html corrected figures =
    section_head html (ascii "ULAE reserve")
    ++ (only html method_text ++ (only html (used_text corrected) ++ (ratio_table html corrected figures ++ section_end html)))
