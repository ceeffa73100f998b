-- A triangle that questions 7, 8 and 9 accept: its printed shares and levels meet the third demand, and no exact share is negative. Assumes nothing.
use mathlib.Core.Path.{◌≡◌, refl, ◌∙◌, ap}
use mathlib.Core.Bool.{true}
use mathlib.Core.List.{List}
use Prim.Native.Nat.{ℕ, zero, suc, ◌+◌, ◌*◌, ◌-◌, ◌/◌, ◌≤◌}
use native.Mathlib.Nat.{le_refl, le_of_suc-le-suc}
use native.Mathlib.Omega.{arith}
use borrow.Author.Tests.{leb-true}
use lib.Dec.{leb}
use lib.IntN.{ℤ}
use Rattle.rules.specs.Triangle.{column_total, diagonal_total, ZeroOutside}
use Rattle.rules.specs.Separation.{billion, column_of, diagonal_of, corner_of, running_down, running_of, share_of, level_of, totals_pass, rests_pass, running_pass}
use Rattle.rules.specs.Exact.{from_to, NearExact}
use Rattle.laws.proofs.Diff.{is_pos, is_minus, is_mul, is_abs, le_is, lt_is}
use Rattle.laws.proofs.Totals.{from_to_all}
use Rattle.laws.proofs.Lists.{every_up_to}
use Rattle.totals.proofs.Whole.{Totals, totals, column_is, diagonal_is}
use Rattle.totals.proofs.TotalsMost.{running_most}
use Rattle.accuracy.proofs.Rounding.{Running, shares_sum}
use Rattle.accuracy.proofs.Solved.{solution_near}
use Rattle.accuracy.proofs.Existence.{exists}
use Rattle.accuracy.proofs.Fitted as fitted
use Rattle.accuracy.proofs.Fitted.{Levels}

-- no share is above S
pub share_most : (s : List (List ℤ)) (k h : ℕ) → share_of s k h ≤ billion
unfolding share_of
share_most s k zero = running_most s k 0
share_most s k (suc h) = omega (arith, running_most s k (suc h))

-- the running shares and the shares are those of the rule
runs : (s : List (List ℤ)) (k : ℕ) → Running k billion (column_of s) (corner_of s) (running_of s k) (share_of s k)
unfolding running_of running_down share_of
runs s k = record {
  top = let e : k - k ≡ 0 = omega arith in ap (λ (m : ℕ). running_down s k m) e;
  down = λ h lt.
      let e : k - h ≡ suc (k - suc h) = omega arith in
      let f : k - (k - suc h) ≡ suc h = omega arith in
      ap (λ (m : ℕ). running_down s k m) e
      ∙ ap (λ (g : ℕ). running_down s k (k - suc h) * (corner_of s g - column_of s g) / corner_of s g) f;
  first = refl;
  next = λ h. refl;
}

module _ (s : List (List ℤ)) (k : ℕ) (out : ZeroOutside s k) (q7 : totals_pass s k ≡ true) (q8 : rests_pass s k ≡ true) where
  tot : Totals k (column_of s) (diagonal_of s) (corner_of s)
  tot = totals s k q7 q8 out

  -- the printed running share is the sum of the printed shares
  pub running_sum : (h : ℕ) → h ≤ k → from_to (share_of s k) 0 h ≡ running_of s k h
  running_sum h le = from_to_all (share_of s k) h ∙ shares_sum _ _ _ _ _ _ _ tot (runs s k) h le

  module _ (q9 : running_pass s k ≡ true) where
    levels : Levels k billion (diagonal_of s) (running_of s k) (level_of s k)
    unfolding running_pass level_of
    levels = record {
      some = λ h le. leb-true 1 (running_of s k h) (every_up_to (λ h. leb 1 (running_of s k h)) (λ h. h) (k + 1) h q9 (omega arith));
      most = λ h le. running_most s k h;
      level = λ h le. refl;
    }

    -- the third demand of shares and levels
    pub near_exact : NearExact k (column_total s) (diagonal_total s) (share_of s k) (level_of s k)
    near_exact = record {
      whole = running_sum k (le_refl k) ∙ (runs s k).top;
      diagonal_above = λ h le.
          rw (diagonal_is s k q7 h le, running_sum h le)
          (le_is (is_pos _) (is_mul (is_pos (diagonal_of s h)) (is_pos billion))
          (omega (arith, fitted.diagonal_low _ _ _ _ _ _ _ _ tot (runs s k) levels h le)));
      diagonal_below = λ h le.
          rw (diagonal_is s k q7 h le, running_sum h le)
          (lt_is (is_mul (is_pos (diagonal_of s h)) (is_pos billion)) (is_pos _)
          (omega (arith, fitted.diagonal_high _ _ _ _ _ _ _ _ tot (runs s k) levels h le)));
      column_near = λ j le.
          let c = fitted.column_near _ _ _ _ _ _ _ _ tot (runs s k) levels j le in
          rw (column_is s k q7 j le)
          (le_of_suc-le-suc
          (is_abs (suc ((suc k - j) * (billion + from_to (level_of s k) j k))) (is_minus (is_pos _) (is_mul (is_pos (column_of s j)) (is_pos billion)))
          (omega (arith, c.0)) (omega (arith, c.1))));
      solvable = exists _ _ _ _ tot _ _ (column_is s k q7) (diagonal_is s k q7);
      share_near = λ D E x y sol j le.
          solution_near _ _ _ _ _ _ _ _ _ (column_is s k q7) (diagonal_is s k q7) sol _ _ _ _ tot (runs s k) j le;
    }
