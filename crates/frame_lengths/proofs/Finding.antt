-- How long the words of a place and the table of the figures there are at most. Assumes nothing.
use mathlib.Core.Path.{refl}
use mathlib.Core.Bool.{Bool, true, false, cond}
use mathlib.Core.List.{List, [], ◌∷◌}
use Prim.Native.Nat.{ℕ, ◌+◌, ◌≤◌}
use native.Mathlib.Omega.{arith}
use lib.Dec.{eqb}
use lib.IntN.{pos}
use lib.Signed.{lt_z}
use lib.ListN.{length, length-append}
use Rattle.rules.specs.Lists.{padded, every}
use Rattle.composing.proofs.Decimals.{length_most}
use Rattle.lines.proofs.Longest.{longest_from}
use Rattle.table_cells.specs.Cells.{most_places}
use Rattle.table_heads.specs.Heads.{rows_in}
use Rattle.table_lengths.proofs.Most.{table_most}
use Rattle.table_lengths.proofs.Tables.{table_most_lem}
use Rattle.finding.specs.declared.Finding.{Finding}
use Rattle.finding.specs.Places.{origin_year, development_year, payment_year, cell, field}
use Rattle.place_words.specs.PlaceWords.{origin_text, development_text, payment_text, cell_text, index_text, field_texts, field_text, years_text, place_text}
use Rattle.question_figures.specs.QuestionFigures.{figure_shape, figure_table, sums_table, field_table, development_table}
use Rattle.finding_table.specs.FindingTable.{given_table, length_table, shares_table, cumulative_table, totals_table, rest_table, running_table, level_table, tail_table, tail_average_table, ultimate_table, total_table, latest_table, divisor_table, corrected_table, completed_table, record_table, triangle_table, reserve_table, finding_table}
use Rattle.frame_lengths.proofs.Texts.{each_most}

-- one of two texts
cond_most : (m : ℕ) (b : Bool) (x y : List ℕ) → length x ≤ m → length y ≤ m → length (cond b x y) ≤ m
cond_most m true x y h l = h
cond_most m false x y h l = l

-- the places
origin_most : (first row : ℕ) → length (origin_text first row) ≤ 32
unfolding origin_text
origin_most first row = simp length-append (omega (arith, length_most (first + row)))

development_most : (column : ℕ) → length (development_text column) ≤ 37
unfolding development_text
development_most column = simp length-append (omega (arith, length_most column))

payment_most : (first row : ℕ) → length (payment_text first row) ≤ 33
unfolding payment_text
payment_most first row = simp length-append (omega (arith, length_most (first + row)))

cell_most_lem : (first row column : ℕ) → length (cell_text first row column) ≤ 71
unfolding cell_text
cell_most_lem first row column = simp length-append (omega (arith, origin_most first row, development_most column))

index_most : (row : ℕ) → length (index_text row) ≤ 71
unfolding index_text
index_most row = omega (arith, length_most (row + 1))

field_most : (place : ℕ) → length (field_text place) ≤ 50
unfolding field_text field_texts every
field_most place = each_most 50 [] field_texts (omega arith) refl place

years_most : (first place row column : ℕ) → length (years_text first place row column) ≤ 71
unfolding years_text
years_most first place row column =
    let origin : length (origin_text first row) ≤ 71 = omega (arith, origin_most first row) in
    let development : length (development_text column) ≤ 71 = omega (arith, development_most column) in
    let payment : length (payment_text first row) ≤ 71 = omega (arith, payment_most first row) in
    let cells = cell_most_lem first row column in
    cond_most 71 (eqb place origin_year) (origin_text first row) _ origin
    (cond_most 71 (eqb place development_year) (development_text column) _ development
    (cond_most 71 (eqb place payment_year) (payment_text first row) _ payment
    (cond_most 71 (eqb place cell) (cell_text first row column) _ cells
    (cond_most 71 (eqb place (field + 1)) (origin_text first row) _ origin
    (cond_most 71 (eqb place (field + 2)) (cell_text first row column) _ cells
    (cond_most 71 (eqb place (field + 3)) (index_text row) _ (index_most row)
    (cond_most 71 (eqb place (field + 4)) (development_text column) _ development
    (cond_most 71 (eqb place (field + 6)) (payment_text first row) [] payment (omega arith)))))))))

pub place_most : (first place row column : ℕ) → length (place_text first place row column) ≤ 121
unfolding place_text
place_most first place row column = simp length-append (omega (arith, field_most place, years_most first place row column))

-- a table of at most three figures
figure_most : (html : Bool) (words labels : List ℕ) (rows a b c : ℕ) (f : Finding) (n : ℕ) → rows ≤ 3 → table_most words labels [] 3 1 ≤ n
    → length (figure_table html words labels rows a b c f) ≤ n
unfolding figure_table rows_in
figure_most html words labels rows a b c f n h most =
    omega (arith, table_most_lem html false words labels [] (figure_shape rows) (padded most_places (pos 0) (f.one ∷ f.two ∷ f.three ∷ [])) (padded most_places 0 (a ∷ b ∷ c ∷ [])) 3 1 (omega arith) (omega arith))

field_table_most : (html : Bool) (f : Finding) → length (field_table html f) ≤ 1100
unfolding field_table table_most longest_from
field_table_most html f = figure_most html _ _ _ _ _ _ f 1100 (omega arith) (omega arith)

sums_most : (html : Bool) (rows : ℕ) (f : Finding) → rows ≤ 3 → length (sums_table html rows f) ≤ 1100
unfolding sums_table table_most longest_from
sums_most html rows f h = figure_most html _ _ rows _ _ _ f 1100 h (omega arith)

development_table_most : (html : Bool) (f : Finding) → length (development_table html f) ≤ 1100
unfolding development_table
development_table_most html f = cond_most 1100 (lt_z f.one (pos 1)) (sums_table html 2 f) (sums_table html 3 f) (sums_most html 2 f (omega arith)) (sums_most html 3 f (omega arith))

given_table_most : (html : Bool) (f : Finding) → length (given_table html f) ≤ 1100
unfolding given_table table_most longest_from
given_table_most html f = figure_most html _ _ _ _ _ _ f 1100 (omega arith) (omega arith)

length_table_most : (html : Bool) (f : Finding) → length (length_table html f) ≤ 1100
unfolding length_table table_most longest_from
length_table_most html f = figure_most html _ _ _ _ _ _ f 1100 (omega arith) (omega arith)

shares_table_most : (html : Bool) (f : Finding) → length (shares_table html f) ≤ 1100
unfolding shares_table table_most longest_from
shares_table_most html f = figure_most html _ _ _ _ _ _ f 1100 (omega arith) (omega arith)

cumulative_table_most : (html : Bool) (f : Finding) → length (cumulative_table html f) ≤ 1100
unfolding cumulative_table table_most longest_from
cumulative_table_most html f = figure_most html _ _ _ _ _ _ f 1100 (omega arith) (omega arith)

totals_table_most : (html : Bool) (f : Finding) → length (totals_table html f) ≤ 1100
unfolding totals_table table_most longest_from
totals_table_most html f = figure_most html _ _ _ _ _ _ f 1100 (omega arith) (omega arith)

rest_table_most : (html : Bool) (f : Finding) → length (rest_table html f) ≤ 1100
unfolding rest_table table_most longest_from
rest_table_most html f = figure_most html _ _ _ _ _ _ f 1100 (omega arith) (omega arith)

running_table_most : (html : Bool) (f : Finding) → length (running_table html f) ≤ 1100
unfolding running_table table_most longest_from
running_table_most html f = figure_most html _ _ _ _ _ _ f 1100 (omega arith) (omega arith)

level_table_most_lem_2 : (html : Bool) (f : Finding) → length (level_table html f) ≤ 1100
unfolding level_table table_most longest_from
level_table_most_lem_2 html f = figure_most html _ _ _ _ _ _ f 1100 (omega arith) (omega arith)

tail_table_most : (html : Bool) (f : Finding) → length (tail_table html f) ≤ 1100
unfolding tail_table table_most longest_from
tail_table_most html f = figure_most html _ _ _ _ _ _ f 1100 (omega arith) (omega arith)

tail_average_table_most : (html : Bool) (f : Finding) → length (tail_average_table html f) ≤ 1100
unfolding tail_average_table table_most longest_from
tail_average_table_most html f = figure_most html _ _ _ _ _ _ f 1100 (omega arith) (omega arith)

ultimate_table_most : (html : Bool) (f : Finding) → length (ultimate_table html f) ≤ 1100
unfolding ultimate_table table_most longest_from
ultimate_table_most html f = figure_most html _ _ _ _ _ _ f 1100 (omega arith) (omega arith)

total_table_most : (html : Bool) (f : Finding) → length (total_table html f) ≤ 1100
unfolding total_table table_most longest_from
total_table_most html f = figure_most html _ _ _ _ _ _ f 1100 (omega arith) (omega arith)

latest_table_most : (html : Bool) (f : Finding) → length (latest_table html f) ≤ 1100
unfolding latest_table table_most longest_from
latest_table_most html f = figure_most html _ _ _ _ _ _ f 1100 (omega arith) (omega arith)

divisor_table_most : (html : Bool) (f : Finding) → length (divisor_table html f) ≤ 1100
unfolding divisor_table table_most longest_from
divisor_table_most html f = figure_most html _ _ _ _ _ _ f 1100 (omega arith) (omega arith)

corrected_table_most : (html : Bool) (f : Finding) → length (corrected_table html f) ≤ 1100
unfolding corrected_table table_most longest_from
corrected_table_most html f = figure_most html _ _ _ _ _ _ f 1100 (omega arith) (omega arith)

completed_table_most : (html : Bool) (f : Finding) → length (completed_table html f) ≤ 1100
unfolding completed_table table_most longest_from
completed_table_most html f = figure_most html _ _ _ _ _ _ f 1100 (omega arith) (omega arith)

record-most : (html : Bool) (n : ℕ) (f : Finding) → length (record_table html n f) ≤ 1100
unfolding record_table
record-most html n f =
    cond_most 1100 (eqb n 1) (given_table html f) _ (given_table_most html f)
    (cond_most 1100 (eqb n 2) (length_table html f) _ (length_table_most html f)
    (cond_most 1100 (eqb n 4) (field_table html f) _ (field_table_most html f)
    (cond_most 1100 (eqb n 5) (shares_table html f) [] (shares_table_most html f) (omega arith))))

triangle_most : (html : Bool) (n : ℕ) (f : Finding) → length (triangle_table html n f) ≤ 1100
unfolding triangle_table
triangle_most html n f =
    cond_most 1100 (eqb n 6) (cumulative_table html f) _ (cumulative_table_most html f)
    (cond_most 1100 (eqb n 13) (development_table html f) _ (development_table_most html f)
    (cond_most 1100 (eqb n 7) (totals_table html f) _ (totals_table_most html f)
    (cond_most 1100 (eqb n 8) (rest_table html f) _ (rest_table_most html f)
    (cond_most 1100 (eqb n 9) (running_table html f) _ (running_table_most html f)
    (cond_most 1100 (eqb n 10) (level_table html f) [] (level_table_most_lem_2 html f) (omega arith))))))

reserve_most : (html : Bool) (n : ℕ) (f : Finding) → length (reserve_table html n f) ≤ 1100
unfolding reserve_table
reserve_most html n f =
    cond_most 1100 (eqb n 18) (tail_table html f) _ (tail_table_most html f)
    (cond_most 1100 (eqb n 19) (tail_average_table html f) _ (tail_average_table_most html f)
    (cond_most 1100 (eqb n 11) (ultimate_table html f) _ (ultimate_table_most html f)
    (cond_most 1100 (eqb n 12) (total_table html f) _ (total_table_most html f)
    (cond_most 1100 (eqb n 15) (latest_table html f) _ (latest_table_most html f)
    (cond_most 1100 (eqb n 16) (divisor_table html f) _ (divisor_table_most html f)
    (cond_most 1100 (eqb n 17) (corrected_table html f) _ (corrected_table_most html f)
    (cond_most 1100 (eqb n 14) (completed_table html f) [] (completed_table_most html f) (omega arith))))))))

pub table_of_most : (html : Bool) (n : ℕ) (f : Finding) → length (finding_table html n f) ≤ 3300
unfolding finding_table
table_of_most html n f = simp length-append (omega (arith, record-most html n f, triangle_most html n f, reserve_most html n f))
