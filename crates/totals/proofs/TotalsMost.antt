-- No total and no running share is above S, so that every product of the walk is at most S × S, which is below 2^64. Assumes nothing.
use mathlib.Core.Path.{◌≡◌, ◌∙◌}
use mathlib.Core.Bool.{true}
use mathlib.Core.List.{List}
use Prim.Native.Nat.{ℕ, zero, suc, ◌-◌, ◌*◌, ◌/◌, ◌≤◌, ◌<◌}
use native.Mathlib.Nat.{le_refl, le_trans, mul-le-mul_left, le_of_mul-le-mul_right, div-mul-le_self, div-zero}
use native.Mathlib.Omega.{arith}
use lib.IntN.{ℤ, pos}
use Rattle.rules.specs.Lists.{total, up_to}
use Rattle.rules.specs.Triangle.{column_total, diagonal_total, all_total, ZeroOutside}
use Rattle.rules.specs.Separation.{billion, column_of, diagonal_of, corner_of, running_down, running_of, totals_pass, rests_pass, level_of}
use Rattle.laws.proofs.Diff.{is_pos, is_add, is_eqs, is_le}
use Rattle.laws.proofs.Totals.{total_at, total_part, sum_to_pos}
use Rattle.totals.proofs.Walk.{all_columns_to, all_diagonals, corner_sums}
use Rattle.totals.proofs.Whole.{all_most, column_is, diagonal_is, corner_is}

-- a running share, once more
less_each : (A T q : ℕ) → q ≤ T → A * q / T ≤ A
less_each A zero q le = omega (arith, div-zero (A * q))
less_each A (suc t) q le = le_of_mul-le-mul_right {k = suc t} (le_trans (div-mul-le_self (A * q) (suc t)) (mul-le-mul_left A le)) (omega arith)

down_most : (s : List (List ℤ)) (k m : ℕ) → running_down s k m ≤ billion
unfolding running_down
down_most s k zero = le_refl billion
down_most s k (suc m) =
    le_trans (less_each (running_down s k m) (corner_of s (k - m)) (corner_of s (k - m) - column_of s (k - m)) (omega arith)) (down_most s k m)

-- every A_h is at most S
pub running_most : (s : List (List ℤ)) (k h : ℕ) → running_of s k h ≤ billion
unfolding running_of
running_most s k h = down_most s k (k - h)

-- the latest level is the latest diagonal, since the running share of year k is S
pub latest_level : (s : List (List ℤ)) (k : ℕ) → level_of s k k ≡ diagonal_of s k
unfolding level_of running_of running_down
latest_level s k = let e : k - k ≡ 0 = omega arith in rw e (omega arith)

module _ (s : List (List ℤ)) (k : ℕ) (lt : k < 16) (out : ZeroOutside s k) (q7 : totals_pass s k ≡ true) where
  columns_most : total (up_to (column_of s) (suc k)) ≤ billion
  columns_most =
      let e : all_total s ≡ pos (total (up_to (column_of s) (suc k)))
      = all_columns_to s k lt out ∙ sum_to_pos (column_total s) (column_of s) (suc k) (λ j l. column_is s k q7 j (omega arith)) in
      omega (arith, is_le (is_pos _) (is_pos billion) (rw e at (all_most s k q7)))

  diagonals_most : total (up_to (diagonal_of s) (suc k)) ≤ billion
  diagonals_most =
      let e : all_total s ≡ pos (total (up_to (diagonal_of s) (suc k)))
      = all_diagonals s k lt out ∙ sum_to_pos (diagonal_total s) (diagonal_of s) (suc k) (λ h l. diagonal_is s k q7 h (omega arith)) in
      omega (arith, is_le (is_pos _) (is_pos billion) (rw e at (all_most s k q7)))

  -- every d_h is at most S
  pub diagonal_most : (h : ℕ) → h ≤ k → diagonal_of s h ≤ billion
  diagonal_most h le = le_trans (total_at (diagonal_of s) (suc k) h (omega arith)) diagonals_most

  module _ (q8 : rests_pass s k ≡ true) where
    corner_below : (h : ℕ) → h ≤ k → corner_of s h ≤ total (up_to (column_of s) (suc h))
    corner_below h le =
        let diagonals = sum_to_pos (diagonal_total s) (diagonal_of s) h (λ i l. diagonal_is s k q7 i (omega arith)) in
        let columns = sum_to_pos (column_total s) (column_of s) (suc h) (λ i l. column_is s k q7 i (omega arith)) in
        omega (
          arith,
          is_eqs (is_add (is_pos (corner_of s h)) (is_pos (total (up_to (diagonal_of s) h)))) (is_pos (total (up_to (column_of s) (suc h))))
              (rw (corner_is s k q7 q8 h le, diagonals, columns) at (corner_sums s h)),
        )

    -- every T_h is at most the total of averages, and so at most S
    pub corner_most : (h : ℕ) → h ≤ k → corner_of s h ≤ billion
    corner_most h le = le_trans (corner_below h le) (le_trans (total_part (column_of s) (suc h) (suc k) (omega arith)) columns_most)
