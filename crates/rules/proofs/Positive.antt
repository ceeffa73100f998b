-- Triangles of two years that show what the kind of solution is about: where nothing is paid in the first year of development, the running share of year 0 is
-- not positive, where nothing is paid in the latest payment year, the level sum of year 1 is not, and a triangle of products has both positive. Assumes nothing.
use Prim.Native.Nat.{ℕ, zero, suc, ◌+◌, ◌-◌, ◌*◌, ◌≤◌, ◌<◌}
use native.Mathlib.Omega.{arith}
use mathlib.Core.Path.{◌≡◌, refl, ap}
use mathlib.Core.List.{List, [], ◌∷◌}
use lib.IntN.{ℤ, pos, ◌*ℤ◌}
use lib.Signed.{◌<ℤ◌}
use Rattle.rules.specs.Lists.{up_to, every}
use Rattle.rules.specs.Questions.{first_no}
use Rattle.rules.specs.Triangle.{sum_to, cell_of, cells_total, column_total, diagonal_total, corner_total, all_total}
use Rattle.rules.specs.Separation.{totals_pass, rests_pass, separation_questions, separate_answer}
use Rattle.rules.specs.Exact.{sum_from, Solves}
use Rattle.rules.specs.Positive.{Positive, Products}

-- the averages a b / c of two years
unfoldable pub two_year_averages : ℕ → ℕ → ℕ → List (List ℤ)
two_year_averages a b c = (pos a ∷ pos b ∷ []) ∷ (pos c ∷ []) ∷ []

-- the numbers a, b of the years 0 and 1
unfoldable pub by_year : ℕ → ℕ → ℕ → ℤ
by_year a b zero = pos a
by_year a b (suc h) = pos b

zero_not_positive : (z : ℤ) → z ≡ pos 0 → pos 0 <ℤ z → ⊥
zero_not_positive z e h = absurd (rw e at h).lt

-- 0 40 / 0 passes question 7 and is refused 8 by the separation (a record of it is refused 13 before that); shares 0 and 1 and levels a and 40 are an exact solution for every a, and its running share of year 0 is 0
pub late_refused : separate_answer (two_year_averages 0 40 0) 1 ≡ 8
unfolding two_year_averages separation_questions separate_answer first_no totals_pass rests_pass every up_to column_total diagonal_total corner_total all_total cells_total sum_to cell_of
late_refused = refl

module _ (a : ℕ) where
  late_diagonals : (h : ℕ) → h ≤ 1 → by_year a 40 h *ℤ sum_to (by_year 0 1) (suc h) ≡ diagonal_total (two_year_averages 0 40 0) h *ℤ pos (1 * 1)
  unfolding two_year_averages by_year diagonal_total cells_total sum_to cell_of
  late_diagonals zero le = ap pos (omega arith)
  late_diagonals (suc zero) le = refl
  late_diagonals (suc (suc h)) le = absurd (omega arith)

  late_columns : (j : ℕ) → j ≤ 1 → by_year 0 1 j *ℤ sum_from (by_year a 40) j (2 - j) ≡ column_total (two_year_averages 0 40 0) j *ℤ pos (1 * 1)
  unfolding two_year_averages by_year column_total cells_total sum_to cell_of sum_from
  late_columns zero le = ap pos (omega arith)
  late_columns (suc zero) le = refl
  late_columns (suc (suc h)) le = absurd (omega arith)

  pub late_solves : Solves 1 1 1 (column_total (two_year_averages 0 40 0)) (diagonal_total (two_year_averages 0 40 0)) (by_year 0 1) (by_year a 40)
  unfolding by_year sum_to
  late_solves = record { shares = omega arith; levels = omega arith; whole = refl; diagonal = late_diagonals; column = late_columns }

  pub late_not_positive : Positive 1 (by_year 0 1) (by_year a 40) → ⊥
  unfolding by_year sum_to
  late_not_positive p = zero_not_positive (sum_to (by_year 0 1) 1) refl (p.running 0 (omega arith))

-- 1 0 / 0 passes question 7 and is refused 8; shares 1 and 0 and levels 1 and 0 are an exact solution, and its level sum of year 1 is 0
pub ended_refused : separate_answer (two_year_averages 1 0 0) 1 ≡ 8
unfolding two_year_averages separation_questions separate_answer first_no totals_pass rests_pass every up_to column_total diagonal_total corner_total all_total cells_total sum_to cell_of
ended_refused = refl

ended_diagonals : (h : ℕ) → h ≤ 1 → by_year 1 0 h *ℤ sum_to (by_year 1 0) (suc h) ≡ diagonal_total (two_year_averages 1 0 0) h *ℤ pos (1 * 1)
unfolding two_year_averages by_year diagonal_total cells_total sum_to cell_of
ended_diagonals zero le = refl
ended_diagonals (suc zero) le = refl
ended_diagonals (suc (suc h)) le = absurd (omega arith)

ended_columns : (j : ℕ) → j ≤ 1 → by_year 1 0 j *ℤ sum_from (by_year 1 0) j (2 - j) ≡ column_total (two_year_averages 1 0 0) j *ℤ pos (1 * 1)
unfolding two_year_averages by_year column_total cells_total sum_to cell_of sum_from
ended_columns zero le = refl
ended_columns (suc zero) le = refl
ended_columns (suc (suc h)) le = absurd (omega arith)

pub ended_solves : Solves 1 1 1 (column_total (two_year_averages 1 0 0)) (diagonal_total (two_year_averages 1 0 0)) (by_year 1 0) (by_year 1 0)
unfolding by_year sum_to
ended_solves = record { shares = omega arith; levels = omega arith; whole = refl; diagonal = ended_diagonals; column = ended_columns }

pub ended_not_positive : Positive 1 (by_year 1 0) (by_year 1 0) → ⊥
unfolding by_year sum_from
ended_not_positive p = zero_not_positive (sum_from (by_year 1 0) 1 1) refl (p.levels 1 (omega arith) (omega arith))

-- 60 80 / 120: shares 3/5 and 2/5, levels 100 and 200
pub products : Products 1 5 1 (by_year 3 2) (by_year 100 200) (two_year_averages 60 80 120)
unfolding two_year_averages cell_of by_year sum_to
products = record { shares = omega arith; levels = omega arith; whole = refl; cell = cells }
  where
    cells : (i j : ℕ) → i + j ≤ 1 → cell_of (two_year_averages 60 80 120) i j *ℤ pos (5 * 1) ≡ by_year 3 2 j *ℤ by_year 100 200 (i + j)
    cells zero zero le = refl
    cells zero (suc zero) le = refl
    cells zero (suc (suc j)) le = absurd (omega arith)
    cells (suc zero) zero le = refl
    cells (suc zero) (suc j) le = absurd (omega arith)
    cells (suc (suc i)) j le = absurd (omega arith)

pub products_positive : Positive 1 (by_year 3 2) (by_year 100 200)
unfolding by_year sum_to sum_from
products_positive = record { running = shares; levels = sums }
  where
    shares : (h : ℕ) → h < 1 → pos 0 <ℤ sum_to (by_year 3 2) (suc h)
    shares zero lt = record { lt = tt }
    shares (suc h) lt = absurd (omega arith)

    sums : (h : ℕ) → 1 ≤ h → h ≤ 1 → pos 0 <ℤ sum_from (by_year 100 200) h (2 - h)
    sums zero ge le = absurd (omega arith)
    sums (suc zero) ge le = record { lt = tt }
    sums (suc (suc h)) ge le = absurd (omega arith)
