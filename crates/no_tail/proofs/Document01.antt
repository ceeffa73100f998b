-- Document 01's rules without a tail, as they would be without request 3 of document 02 (with request 4's halves, request 6's place of 13 and, from valuation year 2027 on, request 1's ratio): they
-- stand here only to be held against. Where a rule of today does not name the tail or e_{k+1}, it is the same rule. Assumes nothing.
use Prim.Native.Nat.{ℕ, ◌+◌, ◌-◌, ◌*◌, ◌/◌, ◌%◌, ◌^◌, ◌≤◌}
use mathlib.Core.Path.{◌≡◌}
use mathlib.Core.Bool.{Bool, ◌&&◌}
use mathlib.Core.List.{List, [], ◌∷◌, ◌++◌, map, zip_with}
use lib.Dec.{eqb, leb}
use lib.IntN.{ℤ, pos, nat_abs}
use lib.ListN.{length, get_or, replicate}
use lib.Seq.{sets}
use Rattle.rules.specs.Lists.{total, up_to, padded, joined}
use Rattle.rules.specs.Packing.{number_of, unpack}
use Rattle.rules.specs.Questions.{first_no, after_call}
use Rattle.rules.specs.Record.{Kind, million, most_index, last_year, exposure, increment, index, reporting, weight, ulae, bits_of, cells, layout, kinds_of, section, value_of, bits_in_range, every_field, last_year_of, codes_of, Figures, figures}
use Rattle.rules.specs.Reading.{has_last_year, opening_questions}
use Rattle.rules.specs.Triangle.{cumulatives_pass}
use Rattle.rules.specs.Separation.{share_of, level_of, separation_questions}
use Rattle.rules.specs.Completion.{future_levels, payment_row, payments, ultimates_pass}
use Rattle.rules.specs.Expense.{not_reported, reserve}
use Rattle.rules.specs.Growth.{latest_reported, divisor_of, growth_questions, used_ratio}
use Rattle.rules.specs.Ladder.{developed, base, development_factors, completed_all}
use Rattle.rules.specs.Results.{separation_sections, completion_sections, reserve_sections, ladder_sections, square_of, latest_diagonal_of, factors_in, paid_in, levels_in, development_in, plain_ratio_in, latest_paid_in}
use Rattle.rules.specs.Engine.{development_questions, ratio_questions, completed_ladder_questions, run_answer, run_into}

-- the record: k indices, and nothing after the ULAE totals
unfoldable pub layout01 : ℕ → List (ℕ × Kind)
layout01 k =
    (1, last_year) ∷ (k + 1, exposure) ∷ (cells k, increment) ∷ (k, index) ∷ (k + 1, reporting) ∷ (1, weight) ∷ (k + 1, ulae) ∷ []

unfoldable pub widths01 : ℕ → List ℕ
widths01 k = map bits_of (kinds_of (layout01 k))

unfoldable pub byte_count01 : ℕ → ℕ
byte_count01 k = (total (widths01 k) + 7) / 8

unfoldable pub filling_count01 : ℕ → ℕ
filling_count01 k = 8 * byte_count01 k - total (widths01 k)

unfoldable pub codes_of01 : List ℕ → List ℕ
codes_of01 s = unpack (widths01 (last_year_of s)) (number_of s / 2 ^ filling_count01 (last_year_of s))

unfoldable pub fields_of01 : List ℕ → List ℤ
fields_of01 s = zip_with value_of (kinds_of (layout01 (last_year_of s))) (codes_of01 s)

-- row i of the fields as numbers
abbrev pub row01 : List ℕ → ℕ → List ℕ
row01 s i = map nat_abs (section (layout01 (last_year_of s)) i (fields_of01 s))

unfoldable pub figures_of01 : List ℕ → Figures
figures_of01 s =
    figures (last_year_of s) (padded 16 0 (row01 s 1)) (padded 136 (pos 0) (section (layout01 (last_year_of s)) 2 (fields_of01 s))) (padded 16 0 (row01 s 3)) (padded 16 0 (row01 s 4)) (get_or (row01 s 5) 0 0)
    (padded 16 0 (row01 s 6)) 0

-- provisions, without a tail payment
unfoldable pub provisions01 : Figures → List ℕ
provisions01 f = up_to (λ i. total (payment_row f.k f.exposures (factors_in f).shares (levels_in f) i)) (f.k + 1)

abbrev pub provisions_in01 : Figures → List ℕ
provisions_in01 f = padded 16 0 (provisions01 f)

-- the ratio, its correction with ultimates without a tail
unfoldable pub divisor01 : Figures → ℕ
divisor01 f = divisor_of f.weight (latest_reported f.k f.reporting (paid_in f) (provisions_in01 f)) (latest_paid_in f)

abbrev pub ratio01 : ℕ → Figures → ℕ
ratio01 year f = used_ratio year (plain_ratio_in f) (divisor01 f)

-- the result list, 20 entries for k = 1 and 489 for k = 15
unfoldable pub result_count01 : ℕ → ℕ
result_count01 k = 3 * cells k + 5 * k + 6

unfoldable pub results_of01 : ℕ → Figures → List ℤ
results_of01 year f =
    let k = f.k in
    let c = paid_in f in
    let q = provisions_in01 f in
    joined
    (separation_sections k (square_of f) (up_to (share_of (square_of f) k) (k + 1)) (up_to (level_of (square_of f) k) (k + 1))
    ++ (completion_sections (future_levels k (latest_diagonal_of f) f.indices) (payments k f.exposures (factors_in f).shares (levels_in f)) (provisions01 f)
    ++ (reserve_sections (up_to (not_reported k f.reporting c q) (k + 1)) (up_to (reserve k (ratio01 year f) f.weight f.reporting c q) (k + 1)) (ratio01 year f)
    ++ ladder_sections (development_factors k (developed k f.increments) (base k f.increments)) (completed_all k c (development_in f)))))

-- questions 1 to 17 in their order
unfoldable pub opening_questions01 : List ℕ → List (ℕ × Bool)
opening_questions01 s =
    (1, has_last_year s)
    ∷ (2, eqb (length s) (byte_count01 (last_year_of s)) && eqb (number_of s % 2 ^ filling_count01 (last_year_of s)) 0)
    ∷ []

unfoldable pub field_questions01 : List ℕ → List (ℕ × Bool)
field_questions01 s =
    (4, every_field bits_in_range (kinds_of (layout01 (last_year_of s))) (codes_of01 s)) ∷ (5, eqb (total (row01 s 4)) million) ∷ []

unfoldable pub figure_questions01 : ℕ → Figures → List (ℕ × Bool)
figure_questions01 year f =
    (6, cumulatives_pass f.k f.increments)
    ∷ (development_questions f ++ (separation_questions (square_of f) f.k ++ ((11, ultimates_pass f.k (paid_in f) (provisions_in01 f))
    ∷ (ratio_questions f ++ (growth_questions year (plain_ratio_in f) (latest_paid_in f) (divisor01 f) ++ completed_ladder_questions f)))))

unfoldable pub run_answer01 : ℕ → List ℕ → ℕ → ℕ
run_answer01 year s m =
    first_no
    (opening_questions01 s ++ ((3, leb (result_count01 (last_year_of s)) m) ∷ (field_questions01 s ++ figure_questions01 year (figures_of01 s))))

-- the codes xs of a record of today and the codes ys of one of document 01, both of the years 0 to k, are the same row by row, but for the index e after e_k and the
-- amount 0 at the end
pub record SameCodes (k e : ℕ) (xs ys : List ℕ) : Type 0 where
  pub years : section (layout k) 0 xs ≡ section (layout01 k) 0 ys
  pub exposures : section (layout k) 1 xs ≡ section (layout01 k) 1 ys
  pub increments : section (layout k) 2 xs ≡ section (layout01 k) 2 ys
  pub indices : section (layout k) 3 xs ≡ section (layout01 k) 3 ys ++ (e ∷ [])
  pub reporting : section (layout k) 4 xs ≡ section (layout01 k) 4 ys
  pub weight : section (layout k) 5 xs ≡ section (layout01 k) 5 ys
  pub ulae : section (layout k) 6 xs ≡ section (layout01 k) 6 ys
  pub amount : section (layout k) 7 xs ≡ 0 ∷ []

-- t is document 01's record, and s is today's with the same fields, bit by bit, the index e, in its range, as e_{k+1} and nothing still to be paid; both have
-- passed questions 1 and 2
pub record Without (e : ℕ) (t s : List ℕ) : Type 0 where
  pub opened01 : first_no (opening_questions01 t) ≡ 0
  pub opened : first_no (opening_questions s) ≡ 0
  pub least : 1 ≤ e
  pub most : e ≤ most_index
  pub years : last_year_of s ≡ last_year_of t
  pub codes : SameCodes (last_year_of t) e (codes_of s) (codes_of01 t)

-- what is shown of the two, for every valuation year and every result buffer: the number is document 01's for a buffer of k + 1 entries fewer, those of the tail payments; and the list is
-- document 01's and then k + 1 zeros, or on a refusal what the buffer held
pub record SameRun (t s : List ℕ) : Type 0 where
  pub answer : (year m : ℕ) → run_answer year s m ≡ run_answer01 year t (m - (last_year_of t + 1))
  pub results : (year : ℕ) (out : List ℤ)
      → run_into year s out
      ≡ after_call (run_answer01 year t (length out - (last_year_of t + 1))) (sets out 0 (results_of01 year (figures_of01 t) ++ replicate (last_year_of t + 1) (pos 0))) out
