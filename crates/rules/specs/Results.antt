-- The result list (document 01, with the ratio of request 1 of document 02 and the tail payments of request 3 at its end): its sections in their order, over
-- lists, and those of the figures f in a valuation year. Assumes nothing.
use Rattle.std.specs.Prelude.{ℕ, ◌+◌, ◌-◌, List, [], ◌∷◌, ◌++◌, map, ℤ, pos, take}
use Rattle.rules.specs.Lists.{total, up_to, padded, joined}
use Rattle.rules.specs.Record.{Figures, cells}
use Rattle.rules.specs.Triangle.{averages_of, cell_of, paid_to}
use Rattle.rules.specs.Separation.{diagonal_of, share_of, level_of, factors_of}
use Rattle.rules.specs.Tail.{first_tail_average, tail_payments}
use Rattle.rules.specs.Completion.{future_levels, payments, provisions}
use Rattle.rules.specs.Expense.{paid_total, ulae_total, plain_ratio, not_reported, reserve}
use Rattle.rules.specs.Growth.{latest_reported, latest_paid, divisor_of, used_ratio}
use Rattle.rules.specs.Ladder.{developed, base, development_factors, completed_all}
use Rattle.rules.specs.declared.Factors.{Factors}

-- the sections by their numbers, in their order
abbrev pub average_section : ℕ
average_section = 0

abbrev pub share_section : ℕ
share_section = 1

abbrev pub level_section : ℕ
level_section = 2

abbrev pub future_level_section : ℕ
future_level_section = 3

abbrev pub payment_section : ℕ
payment_section = 4

abbrev pub provision_section : ℕ
provision_section = 5

abbrev pub provision_total_section : ℕ
provision_total_section = 6

abbrev pub not_reported_section : ℕ
not_reported_section = 7

abbrev pub reserve_section : ℕ
reserve_section = 8

abbrev pub reserve_total_section : ℕ
reserve_total_section = 9

abbrev pub ratio_section : ℕ
ratio_section = 10

abbrev pub factor_section : ℕ
factor_section = 11

abbrev pub completed_section : ℕ
completed_section = 12

abbrev pub tail_section : ℕ
tail_section = 13

abbrev pub section_count : ℕ
section_count = 14

-- how many entries each section has for the years 0 to k
unfoldable pub section_counts : ℕ → List ℕ
section_counts k =
    let n = k + 1 in
    let future = cells k - n in
    cells k ∷ n ∷ n ∷ k ∷ future ∷ n ∷ 1 ∷ n ∷ n ∷ 1 ∷ 1 ∷ k ∷ future ∷ n ∷ []

-- how many entries the whole list has, and where section i starts in it
unfoldable pub result_count : ℕ → ℕ
result_count k = total (section_counts k)

unfoldable pub section_start : ℕ → ℕ → ℕ
section_start k i = total (take i (section_counts k))

-- the most entries that a list has, those of k = 15
abbrev pub most_entries : ℕ
most_entries = 505

-- averages by row, of a square s; r; l
unfoldable pub separation_sections : ℕ → List (List ℤ) → List ℕ → List ℕ → List (List ℤ)
separation_sections k s r l = joined (up_to (λ i. up_to (cell_of s i) (k + 1 - i)) (k + 1)) ∷ map pos r ∷ map pos l ∷ []

-- L_1 to L_k; y by row; R; total R
unfoldable pub completion_sections : List ℕ → List ℕ → List ℕ → List (List ℤ)
completion_sections l y q = map pos l ∷ map pos y ∷ map pos q ∷ (pos (total q) ∷ []) ∷ []

-- N; Q; total Q; p
unfoldable pub reserve_sections : List ℕ → List ℕ → ℕ → List (List ℤ)
reserve_sections n q ratio = map pos n ∷ map pos q ∷ (pos (total q) ∷ []) ∷ (pos ratio ∷ []) ∷ []

-- m_0 to m_{k−1}; the completed C by row
unfoldable pub ladder_sections : List ℕ → List ℕ → List (List ℤ)
ladder_sections m c = map pos m ∷ map pos c ∷ []

-- the tail payments
unfoldable pub tail_sections : List ℕ → List (List ℤ)
tail_sections z = map pos z ∷ []

-- the square of averages of the figures, its latest diagonal d_k, and its factors
unfoldable pub square_of : Figures → List (List ℤ)
square_of f = averages_of f.k f.exposures f.increments

unfoldable pub latest_diagonal_of : Figures → ℕ
latest_diagonal_of f = diagonal_of (square_of f) f.k

unfoldable pub factors_in : Figures → Factors
factors_in f = factors_of (square_of f) f.k

-- t_0 of the figures
unfoldable pub first_tail_average_of : Figures → ℕ
first_tail_average_of f = first_tail_average f.tail f.exposures

-- the paid cumulatives by row, the future levels, the tail payments, the provisions and the development factors of the figures, each in an array, zero past
-- its end
unfoldable pub paid_in : Figures → List ℕ
paid_in f = padded 16 0 (up_to (paid_to f.k f.increments) (f.k + 1))

unfoldable pub levels_in : Figures → List ℕ
levels_in f = padded 16 0 (future_levels f.k (latest_diagonal_of f) f.indices)

unfoldable pub tails_in : Figures → List ℕ
tails_in f = padded 16 0 (tail_payments f.k f.exposures (first_tail_average_of f) f.indices)

unfoldable pub provisions_in : Figures → List ℕ
provisions_in f = padded 16 0 (provisions f.k f.exposures (factors_in f).shares (levels_in f) (tails_in f))

unfoldable pub development_in : Figures → List ℕ
development_in f = padded 16 0 (development_factors f.k (developed f.k f.increments) (base f.k f.increments))

-- of the figures, the plain ratio; B, Y and the divisor that correct it; and the ratio that a valuation year uses and the list has as p. They are what their comments in
-- Expense and Growth say once questions 12, 15 and 16 have said yes
unfoldable pub plain_ratio_in : Figures → ℕ
plain_ratio_in f = plain_ratio (paid_total f.k f.increments) (ulae_total f.k f.ulae)

unfoldable pub latest_reported_in : Figures → ℕ
latest_reported_in f = latest_reported f.k f.reporting (paid_in f) (provisions_in f)

unfoldable pub latest_paid_in : Figures → ℤ
latest_paid_in f = latest_paid f.k f.increments

unfoldable pub divisor_in : Figures → ℕ
divisor_in f = divisor_of f.weight (latest_reported_in f) (latest_paid_in f)

unfoldable pub used_ratio_in : ℕ → Figures → ℕ
used_ratio_in year f = used_ratio year (plain_ratio_in f) (divisor_in f)

-- the sections of the figures in a valuation year
unfoldable pub sections : ℕ → Figures → List (List ℤ)
sections year f =
    let k = f.k in
    let r = (factors_in f).shares in
    let c = paid_in f in
    let q = provisions_in f in
    separation_sections k (square_of f) (up_to (share_of (square_of f) k) (k + 1)) (up_to (level_of (square_of f) k) (k + 1))
    ++ (completion_sections (future_levels k (latest_diagonal_of f) f.indices) (payments k f.exposures r (levels_in f)) (provisions k f.exposures r (levels_in f) (tails_in f))
    ++ (reserve_sections (up_to (not_reported k f.reporting c q) (k + 1)) (up_to (reserve k (used_ratio_in year f) f.weight f.reporting c q) (k + 1)) (used_ratio_in year f)
    ++ (ladder_sections (development_factors k (developed k f.increments) (base k f.increments)) (completed_all k c (development_in f))
    ++ tail_sections (tail_payments k f.exposures (first_tail_average_of f) f.indices))))

-- the result list
unfoldable pub results_of : ℕ → Figures → List ℤ
results_of year f = joined (sections year f)
