-- Question 7 total by total: a total that is below zero, one that is not, and what the loop has done at total i. Assumes nothing.
use mathlib.Core.Path.{◌≡◌, refl, ap, ◌∙◌}
use mathlib.Core.Bool.{Bool, true, false, ◌&&◌, and-false, false≢true}
use mathlib.Core.List.{List}
use Prim.Native.Nat.{ℕ, ◌+◌, ◌*◌, ◌≤◌, ◌<◌, zero-le}
use native.Mathlib.Nat.{not-suc-le-zero}
use native.Mathlib.Numerals.{add-one}
use native.Mathlib.Omega.{arith}
use lib.Dec.{leb}
use lib.IntN.{ℤ, pos, negsuc, nat_abs}
use lib.ListN.{length, get_or, set, length-set}
use lib.Signed.{lt_z, le_z}
use mir.Syntax.{w64}
use mir.Val.{SFits}
use mir.Facts.{to_z-of_z}
use Rattle.rules.specs.Lists.{total, up_to, below, every}
use Rattle.rules.specs.Triangle.{sum_to}
use Rattle.rules.specs.Separation.{billion}
use Rattle.totals.specs.CellSizes.{most_total}
use Rattle.laws.proofs.Lists.{every_next, fails_at, every_up_to, stored}
use Rattle.laws.proofs.Signed.{held}
use Rattle.laws.proofs.Totals.{total_more, sum_to_pos}
use Rattle.entries.proofs.Signs as signs
use Rattle.total_questions.specs.TotalQuestions.{SizesOf}

-- whether total i is not below zero
abbrev least : List ℤ → ℕ → Bool
least z i = le_z (pos 0) (get_or z i (pos 0))

-- question 7 of n totals
abbrev pub totals_passing : List ℤ → List ℤ → ℕ → Bool
totals_passing columns diagonals n =
    every (least columns) (below n) && (every (least diagonals) (below n) && le_z (sum_to (λ i. get_or columns i (pos 0)) n) (pos billion))

-- what the loop has done
pub record TotalsDone (columns diagonals : List ℤ) (n : ℕ) (v d : List ℕ) (sum i : ℕ) : Type 0 where
  pub count : i ≤ n
  pub v_long : length v ≡ 16
  pub d_long : length d ≡ 16
  pub columns_pass : every (least columns) (below i) ≡ true
  pub diagonals_pass : every (least diagonals) (below i) ≡ true
  pub v_sizes : SizesOf i columns v
  pub d_sizes : SizesOf i diagonals d
  pub sum_is : sum ≡ total (up_to (λ j. nat_abs (get_or columns j (pos 0))) i)
  pub sum_most : sum ≤ i * most_total

module _ (columns diagonals : List ℤ) (n : ℕ) (v d : List ℕ) where
  -- before the first total
  pub start : length v ≡ 16 → length d ≡ 16 → TotalsDone columns diagonals n v d 0 0
  unfolding up_to every total
  start a b = record {
    count = zero-le;
    v_long = a;
    d_long = b;
    columns_pass = refl;
    diagonals_pass = refl;
    v_sizes = λ i l. absurd (not-suc-le-zero l);
    d_sizes = λ i l. absurd (not-suc-le-zero l);
    sum_is = refl;
    sum_most = zero-le;
  }

  -- a column is below zero, or a diagonal
  pub column_fails : (i : ℕ) → i < n → SFits w64 (get_or columns i (pos 0)) → lt_z (held (get_or columns i (pos 0))) (pos 0) ≡ true → totals_passing columns diagonals n ≡ false
  column_fails i l fits t = rw (fails_at (least columns) (λ (j : ℕ). j) n i l (signs.zero_test_no (get_or columns i (pos 0)) fits t))

  pub diagonal_fails : (i : ℕ) → i < n → SFits w64 (get_or diagonals i (pos 0)) → lt_z (held (get_or diagonals i (pos 0))) (pos 0) ≡ true → totals_passing columns diagonals n ≡ false
  diagonal_fails i l fits t = rw (fails_at (least diagonals) (λ (j : ℕ). j) n i l (signs.zero_test_no (get_or diagonals i (pos 0)) fits t)) (and-false (every (least columns) (below n)))

  module _ (sum i : ℕ) (done : TotalsDone columns diagonals n v d sum i) where
    -- one total more of each
    pub more : i < n → n ≤ 16 → SFits w64 (get_or columns i (pos 0)) → lt_z (held (get_or columns i (pos 0))) (pos 0) ≡ false
        → SFits w64 (get_or diagonals i (pos 0)) → lt_z (held (get_or diagonals i (pos 0))) (pos 0) ≡ false → nat_abs (get_or columns i (pos 0)) ≤ most_total
        → TotalsDone columns diagonals n (set v i (nat_abs (held (get_or columns i (pos 0))))) (set d i (nat_abs (held (get_or diagonals i (pos 0))))) (sum + nat_abs (held (get_or columns i (pos 0)))) (i + 1)
    more l few a s b t small =
        let column = ap nat_abs (to_z-of_z a) in
        let diagonal = ap nat_abs (to_z-of_z b) in
        record {
          count = omega arith;
          v_long = length-set v i _ ∙ done.v_long;
          d_long = length-set d i _ ∙ done.d_long;
          columns_pass = every_next (least columns) (λ (j : ℕ). j) i done.columns_pass (signs.zero_test_yes (get_or columns i (pos 0)) a s);
          diagonals_pass = every_next (least diagonals) (λ (j : ℕ). j) i done.diagonals_pass (signs.zero_test_yes (get_or diagonals i (pos 0)) b t);
          v_sizes = λ j m. stored v i _ 0 (λ c. nat_abs (get_or columns c (pos 0))) (omega (arith, done.v_long)) column j (λ ne. done.v_sizes j (omega (arith, ne)));
          d_sizes = λ j m. stored d i _ 0 (λ c. nat_abs (get_or diagonals c (pos 0))) (omega (arith, done.d_long)) diagonal j (λ ne. done.d_sizes j (omega (arith, ne)));
          sum_is = rw (add-one i) (omega (arith, column, done.sum_is, total_more (λ j. nat_abs (get_or columns j (pos 0))) i));
          sum_most = omega (arith, column, done.sum_most);
        }

  -- all of them
  pub last : (sum : ℕ) → TotalsDone columns diagonals n v d sum n → leb sum billion ≡ totals_passing columns diagonals n
  last sum done =
      let whole : (i : ℕ) → i < n → get_or columns i (pos 0) ≡ pos (nat_abs (get_or columns i (pos 0)))
      = λ i l. positive (get_or columns i (pos 0)) (every_up_to (least columns) (λ j. j) n i done.columns_pass l) in
      rw (done.columns_pass, done.diagonals_pass, sum_to_pos (λ i. get_or columns i (pos 0)) (λ i. nat_abs (get_or columns i (pos 0))) n whole, done.sum_is)
    where
      positive : (z : ℤ) → le_z (pos 0) z ≡ true → z ≡ pos (nat_abs z)
      positive (pos m) e = refl
      positive (negsuc m) e = absurd (false≢true e)
