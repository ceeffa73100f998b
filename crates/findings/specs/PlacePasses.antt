-- Which places of the record s a question asks about, whether it says yes there, and whether it does at every place before, by its own words about that place (document 01, "Questions in their order"). Assumes nothing.
use Rattle.std.specs.Prelude.{ℕ, suc, ◌+◌, ◌-◌, ◌≤◌, ◌<◌, ◌≡◌, Bool, true, cond, List, eqb, leb, ℤ, pos}
use Rattle.std.specs.Int.Signed.{le_z}
use Rattle.rules.specs.Lists.{below, every}
use Rattle.rules.specs.Record.{Figures, count_of, last_year_of, figures_of}
use Rattle.rules.specs.Reading.{has_last_year, has_length, shares_sum_of}
use Rattle.rules.specs.Triangle.{row_start, row_passes, column_total, diagonal_total, all_total, most_cumulative}
use Rattle.rules.specs.Separation.{billion, running_of, level_of}
use Rattle.rules.specs.Tail.{tail_average, most_tail_average, first_tail_average_passes}
use Rattle.rules.specs.Completion.{ultimate, most_ultimate}
use Rattle.rules.specs.Expense.{paid_total, ulae_total, ratio_pass}
use Rattle.rules.specs.Growth.{latest_paid_passes, divisor_passes, corrected_ratio, corrected_ratio_passes}
use Rattle.rules.specs.Ladder.{developed, base, factor_passes, completed, completed_row}
use Rattle.rules.specs.Results.{square_of, first_tail_average_of, paid_in, provisions_in, development_in, plain_ratio_in, latest_paid_in, divisor_in}
use Rattle.finding.specs.declared.Finding.{Finding}
use Rattle.finding.specs.Places.{nowhere, origin_year, development_year, payment_year, cell, field}
use Rattle.field_findings.specs.Fields.{field_passes, row_in_range}
use Rattle.cumulative_findings.specs.CumulativeFindings.{cell_passes}
use Rattle.triangle_findings.specs.TriangleFindings.{rest_passes}

-- which field of row r of the layout stands at a row and a column: an increment by its cell, a reporting share by its development year
unfoldable pub field_index : ℕ → ℕ → ℕ → ℕ → ℕ
field_index k r row column = cond (eqb r 2) (row_start k row + column) (cond (eqb r 4) column row)

-- 7, of a column, of a diagonal, and of all averages
unfoldable pub total_passes_at : List (List ℤ) → Finding → Bool
total_passes_at q f =
    cond (eqb f.place development_year) (le_z (pos 0) (column_total q f.column))
    (cond (eqb f.place payment_year) (le_z (pos 0) (diagonal_total q f.row)) (le_z (all_total q) (pos billion)))

-- the questions about figures g, in the order in which they are put; 15 to 17 are put in years that correct the ratio
unfoldable pub figure_passes : Figures → ℕ → Finding → Bool
figure_passes g n f =
    let k = g.k in
    cond (eqb n 6) (cell_passes k g.increments f.row f.column)
    (cond (eqb n 13) (factor_passes (developed k g.increments f.column) (base k g.increments f.column))
    (cond (eqb n 7) (total_passes_at (square_of g) f)
    (cond (eqb n 8) (rest_passes (square_of g) f.column)
    (cond (eqb n 9) (leb 1 (running_of (square_of g) k f.column))
    (cond (eqb n 10) (leb (level_of (square_of g) k f.row) billion)
    (cond (eqb n 18) (first_tail_average_passes (first_tail_average_of g))
    (cond (eqb n 19) (leb (tail_average (first_tail_average_of g) g.indices f.row) most_tail_average)
    (cond (eqb n 11) (leb (ultimate (paid_in g) (provisions_in g) f.row) most_ultimate)
    (cond (eqb n 12) (ratio_pass (paid_total k g.increments) (ulae_total k g.ulae))
    (cond (eqb n 15) (latest_paid_passes (latest_paid_in g))
    (cond (eqb n 16) (divisor_passes (divisor_in g))
    (cond (eqb n 17) (corrected_ratio_passes (corrected_ratio (plain_ratio_in g) (divisor_in g)))
    (cond (eqb n 14) (leb (completed k (paid_in g) (development_in g) f.row (f.column - (k - f.row))) most_cumulative) true)))))))))))))

-- and those about the record; question 3 is not among them, since the buffer for the list is long enough
unfoldable pub place_passes : List ℕ → ℕ → Finding → Bool
place_passes s n f =
    cond (eqb n 1) (has_last_year s)
    (cond (eqb n 2) (has_length s)
    (cond (eqb n 4) (field_passes s (f.place - field) (field_index (last_year_of s) (f.place - field) f.row f.column))
    (cond (eqb n 5) (shares_sum_of s) (figure_passes (figures_of s) n f))))

-- 4, a field of row r: it is one of the row's, and an increment's cell is one of the triangle
pub record FieldAsked (k r : ℕ) (f : Finding) : Type 0 where
  pub kind : f.place ≡ field + r
  pub least : 1 ≤ r
  pub most : r < 8
  pub inside : field_index k r f.row f.column < count_of k r
  pub within : r ≡ 2 → f.row + f.column ≤ k

-- 7, a column, a diagonal, or all averages
abbrev pub TotalAsked : ℕ → Finding → Type 0
TotalAsked k f =
    cond (eqb f.place development_year) (f.column ≤ k) (cond (eqb f.place payment_year) (f.row ≤ k) (f.place ≡ nowhere))

-- the places that question n asks about: fields by their row in the layout and their years, cells of the triangle, and years within it; none is named where it asks about all
unfoldable pub PlaceAsked : List ℕ → ℕ → Finding → Type 0
PlaceAsked s n f =
    let k = last_year_of s in
    cond (eqb n 4) (FieldAsked k (f.place - field) f)
    (cond (eqb n 6) ((f.place ≡ cell) × (f.row + f.column ≤ k))
    (cond (eqb n 13) ((f.place ≡ development_year) × (f.column < k))
    (cond (eqb n 7) (TotalAsked k f)
    (cond (eqb n 8) ((f.place ≡ development_year) × ((1 ≤ f.column) × (f.column ≤ k)))
    (cond (eqb n 9) ((f.place ≡ development_year) × (f.column ≤ k))
    (cond (eqb n 10) ((f.place ≡ payment_year) × (f.row ≤ k))
    (cond (eqb n 18) ((f.place ≡ origin_year) × (f.row ≡ 0))
    (cond (eqb n 19) ((f.place ≡ origin_year) × (f.row ≤ k))
    (cond (eqb n 11) ((f.place ≡ origin_year) × (f.row ≤ k))
    (cond (eqb n 15) ((f.place ≡ payment_year) × (f.row ≡ k))
    (cond (eqb n 14) ((f.place ≡ cell) × ((f.row ≤ k) × ((k < f.row + f.column) × (f.column ≤ k)))) (f.place ≡ nowhere))))))))))))

-- and that it says yes at every place before, in its order; of 7 the columns come before the diagonals, and those before all averages
abbrev pub TotalFirst : List (List ℤ) → ℕ → Finding → Type 0
TotalFirst q k f =
    let columns : ℕ → Bool = λ m. every (λ j. le_z (pos 0) (column_total q j)) (below m) in
    let diagonals : ℕ → Bool = λ m. every (λ h. le_z (pos 0) (diagonal_total q h)) (below m) in
    cond (eqb f.place development_year) (columns f.column ≡ true)
    (cond (eqb f.place payment_year) ((columns (k + 1) ≡ true) × (diagonals f.row ≡ true)) ((columns (k + 1) ≡ true) × (diagonals (k + 1) ≡ true)))

-- the questions about figures g
unfoldable pub FigureFirst : Figures → ℕ → Finding → Type 0
FigureFirst g n f =
    let k = g.k in
    cond (eqb n 6) ((every (row_passes k g.increments) (below f.row) ≡ true) × (every (cell_passes k g.increments f.row) (below f.column) ≡ true))
    (cond (eqb n 13) (every (λ h. factor_passes (developed k g.increments h) (base k g.increments h)) (below f.column) ≡ true)
    (cond (eqb n 7) (TotalFirst (square_of g) k f)
    (cond (eqb n 8) (every (λ m. rest_passes (square_of g) (m + 1)) (below (f.column - 1)) ≡ true)
    (cond (eqb n 9) (every (λ h. leb 1 (running_of (square_of g) k h)) (below f.column) ≡ true)
    (cond (eqb n 10) (every (λ h. leb (level_of (square_of g) k h) billion) (below f.row) ≡ true)
    (cond (eqb n 19) (every (λ i. leb (tail_average (first_tail_average_of g) g.indices i) most_tail_average) (below f.row) ≡ true)
    (cond (eqb n 11) (every (λ i. leb (ultimate (paid_in g) (provisions_in g) i) most_ultimate) (below f.row) ≡ true)
    (cond (eqb n 14)
    ((every (λ i. every (λ x. leb x most_cumulative) (completed_row k (paid_in g) (development_in g) i)) (below f.row) ≡ true)
    × (every (λ t. leb (completed k (paid_in g) (development_in g) f.row (suc t)) most_cumulative) (below (f.column - (k - f.row) - 1)) ≡ true))
    (n ≡ n)))))))))

-- and those about the record; the others ask once
unfoldable pub PlaceFirst : List ℕ → ℕ → Finding → Type 0
PlaceFirst s n f =
    let r = f.place - field in
    cond (eqb n 4) ((every (row_in_range s) (below r) ≡ true) × (every (field_passes s r) (below (field_index (last_year_of s) r f.row f.column)) ≡ true)) (FigureFirst (figures_of s) n f)
