-- Triangles of three years that pass question 7 and are refused 8: one that no exact solution fits, one that many fit, and one that has exactly one, of whose
-- named sums some are negative. So 8 does not mean that there is no exact solution, nor that there are many. Assumes nothing.
use mathlib.Core.Path.{◌≡◌, refl, sym, ◌∙◌, ap}
use mathlib.Core.Bool.{true}
use mathlib.Core.List.{List, [], ◌∷◌}
use Prim.Native.Nat.{ℕ, zero, suc, ◌+◌, ◌-◌, ◌*◌, ◌≤◌, ◌<◌}
use native.Mathlib.Nat.{mul-pos}
use native.Mathlib.Omega.{arith}
use lib.IntN.{ℤ, pos, negsuc, ◌*ℤ◌, *ℤ_comm, *ℤ-zero, zero-*ℤ, pos-ne-negsuc}
use Rattle.rules.specs.Lists.{up_to, every}
use Rattle.rules.specs.Questions.{first_no}
use Rattle.rules.specs.Triangle.{sum_to, cell_of, cells_total, column_total, diagonal_total, corner_total, all_total, ZeroOutside}
use Rattle.rules.specs.Separation.{totals_pass, rests_pass, separation_questions, separate_answer}
use Rattle.rules.specs.Exact.{sum_from, Solves}
use Rattle.rules.specs.Positive.{Positive, Same}
use Rattle.laws.proofs.Diff.{is_pos, is_mul, is_eqs}
use Rattle.solutions.proofs.Signs.{cancel}
use Rattle.solutions.proofs.Identity.{running_share, level_sum, identity, rest}
use Rattle.solutions.proofs.Named.{same}
use Rattle.solutions.proofs.Refusal.{corners}

-- the averages a b c / d e / f of three years, and the numbers a, b, c of the years 0 to 2
unfoldable pub three_year_averages : ℤ → ℤ → ℤ → ℤ → ℤ → ℤ → List (List ℤ)
three_year_averages a b c d e f = (a ∷ b ∷ c ∷ []) ∷ (d ∷ e ∷ []) ∷ (f ∷ []) ∷ []

unfoldable pub of_years : ℤ → ℤ → ℤ → ℕ → ℤ
of_years a b c zero = a
of_years a b c (suc zero) = b
of_years a b c (suc (suc h)) = c

-- zero outside their triangle
outside : (a b c d e f : ℤ) → ZeroOutside (three_year_averages a b c d e f) 2
unfolding three_year_averages cell_of
outside a b c d e f zero (suc (suc (suc j))) lt = refl
outside a b c d e f zero zero lt = absurd (omega arith)
outside a b c d e f zero (suc zero) lt = absurd (omega arith)
outside a b c d e f zero (suc (suc zero)) lt = absurd (omega arith)
outside a b c d e f (suc zero) zero lt = absurd (omega arith)
outside a b c d e f (suc zero) (suc zero) lt = absurd (omega arith)
outside a b c d e f (suc zero) (suc (suc j)) lt = refl
outside a b c d e f (suc (suc zero)) zero lt = absurd (omega arith)
outside a b c d e f (suc (suc zero)) (suc j) lt = refl
outside a b c d e f (suc (suc (suc i))) j lt = refl

-- 1 0 0 / 0 1 / 0
abbrev pub no_solution : List (List ℤ)
no_solution = three_year_averages (pos 1) (pos 0) (pos 0) (pos 0) (pos 1) (pos 0)

-- 1 0 0 / 0 0 / 0
abbrev pub many_solutions : List (List ℤ)
many_solutions = three_year_averages (pos 1) (pos 0) (pos 0) (pos 0) (pos 0) (pos 0)

-- 0 1 2 / 1 −1 / 0
abbrev pub one_solution : List (List ℤ)
one_solution = three_year_averages (pos 0) (pos 1) (pos 2) (pos 1) (negsuc 0) (pos 0)

-- each passes question 7 and is refused 8
pub sevens : (totals_pass no_solution 2 ≡ true) × ((totals_pass many_solutions 2 ≡ true) × (totals_pass one_solution 2 ≡ true))
unfolding three_year_averages totals_pass every up_to column_total diagonal_total all_total cells_total sum_to cell_of
sevens = (refl, (refl, refl))

pub eights : (separate_answer no_solution 2 ≡ 8) × ((separate_answer many_solutions 2 ≡ 8) × (separate_answer one_solution 2 ≡ 8))
unfolding three_year_averages separate_answer separation_questions first_no totals_pass rests_pass every up_to column_total diagonal_total corner_total all_total cells_total sum_to cell_of
eights = (refl, (refl, refl))

-- a product that is not zero has no factor that is
factor_not_zero : (x u : ℤ) (F : ℕ) → 0 < F → x *ℤ u ≡ pos 1 *ℤ pos F → x ≡ pos 0 → ⊥
factor_not_zero x u F p e z =
    let f : pos 0 ≡ pos 1 *ℤ pos F = sym (zero-*ℤ u) ∙ ap (λ (t : ℤ). t *ℤ u) (sym z) ∙ e in
    omega (arith, is_eqs (is_pos 0) (is_mul (is_pos 1) (is_pos F)) f)

-- the first has none: l_0 × A_0 and A_1 × (l_1 + l_2) are 1, and (l_1 + l_2) × A_0 is 0
module _ (D E : ℕ) (r l : ℕ → ℤ) (s : Solves 2 D E (column_total no_solution) (diagonal_total no_solution) r l) where
  first_level : running_share r 0 *ℤ l 0 ≡ pos 1 *ℤ pos (D * E)
  unfolding three_year_averages diagonal_total cells_total sum_to cell_of
  first_level = *ℤ_comm (running_share r 0) (l 0) ∙ s.diagonal 0 (omega arith)

  level_sum_lem : level_sum 2 l 1 *ℤ running_share r 1 ≡ pos 1 *ℤ pos (D * E)
  unfolding three_year_averages corner_total cells_total sum_to cell_of
  level_sum_lem =
      *ℤ_comm (level_sum 2 l 1) (running_share r 1)
      ∙ identity 2 D E (column_total no_solution) (diagonal_total no_solution) (corner_total no_solution) r l (corners no_solution 2 (outside _ _ _ _ _ _)) s 1 (omega arith)

  nothing_left : level_sum 2 l 1 *ℤ running_share r 0 ≡ pos 0 *ℤ pos (D * E)
  unfolding three_year_averages corner_total column_total cells_total sum_to cell_of
  nothing_left = rest 2 D E (column_total no_solution) (diagonal_total no_solution) (corner_total no_solution) r l (corners no_solution 2 (outside _ _ _ _ _ _)) s 0 (omega arith)

  pub none_solves : ⊥
  none_solves =
      let p = mul-pos s.shares s.levels in
      factor_not_zero (running_share r 0) (l 0) (D * E) p first_level
      (cancel (level_sum 2 l 1) (running_share r 0) (pos 0) (factor_not_zero (level_sum 2 l 1) (running_share r 1) (D * E) p level_sum_lem)
      (nothing_left ∙ zero-*ℤ (pos (D * E)) ∙ sym (*ℤ-zero (level_sum 2 l 1))))

-- the second has one for every a: shares 1, a and 0 over a + 1, levels a + 1, 0 and 0
module _ (a : ℕ) where
  many_diagonals : (h : ℕ) → h ≤ 2
      → of_years (pos (suc a)) (pos 0) (pos 0) h *ℤ sum_to (of_years (pos 1) (pos a) (pos 0)) (suc h) ≡ diagonal_total many_solutions h *ℤ pos (suc a * 1)
  unfolding three_year_averages of_years diagonal_total cells_total sum_to cell_of
  many_diagonals zero le = ap pos (omega arith)
  many_diagonals (suc zero) le = ap pos (omega arith)
  many_diagonals (suc (suc zero)) le = ap pos (omega arith)
  many_diagonals (suc (suc (suc h))) le = absurd (omega arith)

  many_columns : (j : ℕ) → j ≤ 2
      → of_years (pos 1) (pos a) (pos 0) j *ℤ sum_from (of_years (pos (suc a)) (pos 0) (pos 0)) j (3 - j) ≡ column_total many_solutions j *ℤ pos (suc a * 1)
  unfolding three_year_averages of_years column_total cells_total sum_to cell_of sum_from
  many_columns zero le = ap pos (omega arith)
  many_columns (suc zero) le = ap pos (omega arith)
  many_columns (suc (suc zero)) le = ap pos (omega arith)
  many_columns (suc (suc (suc j))) le = absurd (omega arith)

  pub many_solve : Solves 2 (suc a) 1 (column_total many_solutions) (diagonal_total many_solutions) (of_years (pos 1) (pos a) (pos 0)) (of_years (pos (suc a)) (pos 0) (pos 0))
  unfolding of_years sum_to
  many_solve = record { shares = omega arith; levels = omega arith; whole = ap pos (omega arith); diagonal = many_diagonals; column = many_columns }

  -- no two of them the same
  pub many_differ : (b : ℕ)
      → Same 2 (suc a) 1 (of_years (pos 1) (pos a) (pos 0)) (of_years (pos (suc a)) (pos 0) (pos 0)) (suc b) 1 (of_years (pos 1) (pos b) (pos 0)) (of_years (pos (suc b)) (pos 0) (pos 0))
      → a ≡ b
  unfolding of_years
  many_differ b e = omega (arith, is_eqs (is_mul (is_pos 1) (is_pos (suc b))) (is_mul (is_pos 1) (is_pos (suc a))) (e.shares 0 (omega arith)))

-- the third has shares −1, 0 and 2 and levels 0, −2 and 1
abbrev pub one_shares : ℕ → ℤ
one_shares = of_years (negsuc 0) (pos 0) (pos 2)

abbrev pub one_levels : ℕ → ℤ
one_levels = of_years (pos 0) (negsuc 1) (pos 1)

one_diagonals : (h : ℕ) → h ≤ 2 → one_levels h *ℤ sum_to one_shares (suc h) ≡ diagonal_total one_solution h *ℤ pos (1 * 1)
unfolding three_year_averages of_years diagonal_total cells_total sum_to cell_of
one_diagonals zero le = refl
one_diagonals (suc zero) le = refl
one_diagonals (suc (suc zero)) le = refl
one_diagonals (suc (suc (suc h))) le = absurd (omega arith)

one_columns : (j : ℕ) → j ≤ 2 → one_shares j *ℤ sum_from one_levels j (3 - j) ≡ column_total one_solution j *ℤ pos (1 * 1)
unfolding three_year_averages of_years column_total cells_total sum_to cell_of sum_from
one_columns zero le = refl
one_columns (suc zero) le = refl
one_columns (suc (suc zero)) le = refl
one_columns (suc (suc (suc j))) le = absurd (omega arith)

pub one_solves : Solves 2 1 1 (column_total one_solution) (diagonal_total one_solution) one_shares one_levels
unfolding of_years sum_to
one_solves = record { shares = omega arith; levels = omega arith; whole = refl; diagonal = one_diagonals; column = one_columns }

-- and no other
pub one_alone : (F G : ℕ) (x y : ℕ → ℤ) → Solves 2 F G (column_total one_solution) (diagonal_total one_solution) x y → Same 2 1 1 one_shares one_levels F G x y
unfolding of_years sum_to sum_from
one_alone F G x y s =
    same 2 1 1 F G (column_total one_solution) (diagonal_total one_solution) (corner_total one_solution) one_shares one_levels x y (corners one_solution 2 (outside _ _ _ _ _ _)) one_solves
    (record { running = shares; levels = sums }) s
  where
    shares : (h : ℕ) → h < 2 → running_share one_shares h ≡ pos 0 → ⊥
    shares zero lt e = pos-ne-negsuc 0 0 (sym e)
    shares (suc zero) lt e = pos-ne-negsuc 0 0 (sym e)
    shares (suc (suc h)) lt e = absurd (omega arith)

    sums : (h : ℕ) → h < 2 → level_sum 2 one_levels (suc h) ≡ pos 0 → ⊥
    sums zero lt e = pos-ne-negsuc 0 0 (sym e)
    sums (suc zero) lt e = omega (arith, is_eqs (is_pos 1) (is_pos 0) e)
    sums (suc (suc h)) lt e = absurd (omega arith)

-- whose running share of year 0 is not positive
pub one_not_positive : Positive 2 one_shares one_levels → ⊥
unfolding of_years sum_to
one_not_positive p = absurd (p.running 0 (omega arith)).lt
