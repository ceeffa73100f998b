-- Where questions 7 and 8 say yes: the totals are whole numbers, and T's rule holds of them. Assumes nothing.
use mathlib.Core.Path.{◌≡◌, refl, sym, ◌∙◌, subst}
use mathlib.Core.Bool.{Bool, true, ◌&&◌, and-eq-true_iff}
use mathlib.Core.List.{List}
use Prim.Native.Nat.{ℕ, zero, suc, ◌+◌, ◌≤◌, ◌<◌}
use native.Mathlib.Nat.{le_refl}
use native.Mathlib.Numerals.{add-one}
use native.Mathlib.Omega.{arith}
use lib.Dec.{T}
use lib.IntN.{ℤ, pos, negsuc, nat_abs, ◌-ℤ◌}
use lib.Signed.{◌≤ℤ◌, le_z, le_z_yes, yes_non_neg, pos-nat_abs}
use Rattle.rules.specs.Lists.{every}
use Rattle.rules.specs.Triangle.{column_total, diagonal_total, corner_total, all_total, ZeroOutside}
use Rattle.rules.specs.Separation.{billion, column_of, diagonal_of, corner_of, years0, totals_pass, rests_pass}
use Rattle.laws.proofs.Diff.{is_self, is_pos, is_add, is_minus, is_eqs, is_le}
use Rattle.laws.proofs.Lists.{every_up_to}
use Rattle.totals.proofs.Corners.{corner_down, corner_first, corner_last}

-- columns v, diagonals d and T of the years 0 to k, in whole numbers: T_k = d_k, T_{h−1} = T_h − v_h + d_{h−1}, T_0 = v_0, and T_h − v_h at least 1
pub record Totals (k : ℕ) (v d T : ℕ → ℕ) : Type 0 where
  pub last : T k ≡ d k
  pub down : (h : ℕ) → h < k → T h + v (suc h) ≡ T (suc h) + d h
  pub first : T 0 ≡ v 0
  pub less : (h : ℕ) → h < k → v (suc h) < T (suc h)

-- a test that says yes
yes_le : (a b : ℤ) → le_z a b ≡ true → a ≤ℤ b
yes_le a b e = le_z_yes (subst T (sym e) tt)

whole : (z : ℤ) → pos 0 ≤ℤ z → z ≡ pos (nat_abs z)
whole z h = sym (pos-nat_abs z (yes_non_neg h))

whole_above : (t v : ℤ) → pos 0 ≤ℤ v → pos 1 ≤ℤ (t -ℤ v) → t ≡ pos (nat_abs t)
whole_above (pos n) v p q = refl
whole_above (negsuc n) v p q = absurd (none n (nat_abs v) (rw (whole v p) at q))
  where
    none : (n v : ℕ) → pos 1 ≤ℤ (negsuc n -ℤ pos v) → ⊥
    none n v q = omega (arith, is_le (is_pos 1) (is_minus (is_self (negsuc n)) (is_pos v)) q)

abbrev columns_pass : List (List ℤ) → ℕ → Bool
columns_pass s k = every (λ j. le_z (pos 0) (column_total s j)) (years0 k)

abbrev diagonals_pass : List (List ℤ) → ℕ → Bool
diagonals_pass s k = every (λ h. le_z (pos 0) (diagonal_total s h)) (years0 k)

module _ (s : List (List ℤ)) (k : ℕ) (q7 : totals_pass s k ≡ true) where
  -- the three parts of question 7
  parts : (columns_pass s k ≡ true) × ((diagonals_pass s k ≡ true) × (le_z (all_total s) (pos billion) ≡ true))
  unfolding totals_pass
  parts =
      let first = (and-eq-true_iff (columns_pass s k) (diagonals_pass s k && le_z (all_total s) (pos billion))).0 q7 in
      (first.0, (and-eq-true_iff (diagonals_pass s k) (le_z (all_total s) (pos billion))).0 first.1)

  pub column_least : (j : ℕ) → j ≤ k → pos 0 ≤ℤ column_total s j
  column_least j le = yes_le _ _ (every_up_to (λ j. le_z (pos 0) (column_total s j)) (λ h. h) (k + 1) j parts.0 (omega arith))

  diagonal_least : (h : ℕ) → h ≤ k → pos 0 ≤ℤ diagonal_total s h
  diagonal_least h le = yes_le _ _ (every_up_to (λ h. le_z (pos 0) (diagonal_total s h)) (λ h. h) (k + 1) h parts.1.0 (omega arith))

  -- the total of averages is at most S
  pub all_most : all_total s ≤ℤ pos billion
  all_most = yes_le _ _ parts.1.1

  -- every v_j is a whole number
  pub column_is : (j : ℕ) → j ≤ k → column_total s j ≡ pos (column_of s j)
  unfolding column_of
  column_is j le = whole _ (column_least j le)

  -- every d_h is a whole number
  pub diagonal_is : (h : ℕ) → h ≤ k → diagonal_total s h ≡ pos (diagonal_of s h)
  unfolding diagonal_of
  diagonal_is h le = whole _ (diagonal_least h le)

  module _ (q8 : rests_pass s k ≡ true) where
    pub rest_least : (h : ℕ) → h < k → pos 1 ≤ℤ (corner_total s (suc h) -ℤ column_total s (suc h))
    unfolding rests_pass
    rest_least h lt =
        let e : le_z (pos 1) (corner_total s (h + 1) -ℤ column_total s (h + 1)) ≡ true
        = every_up_to (λ h. le_z (pos 1) (corner_total s h -ℤ column_total s h)) (λ h. h + 1) k h q8 lt in
        yes_le _ _ (rw (add-one h) at e)

    -- every T_h is a whole number
    pub corner_is : (h : ℕ) → h ≤ k → corner_total s h ≡ pos (corner_of s h)
    unfolding corner_of
    corner_is zero le = let e = corner_first s in whole _ (rw e (column_least 0 le))
    corner_is (suc h) le = whole_above _ _ (column_least (suc h) le) (rest_least h le)

    -- T's rule in whole numbers
    pub totals : ZeroOutside s k → Totals k (column_of s) (diagonal_of s) (corner_of s)
    totals out = record {
      last =
          let e = sym (corner_is k (le_refl k)) ∙ corner_last s k out ∙ diagonal_is k (le_refl k) in
          omega (arith, is_eqs (is_pos (corner_of s k)) (is_pos (diagonal_of s k)) e);
      down = λ h lt.
          let e = rw (corner_is h (omega arith), column_is (suc h) lt, corner_is (suc h) lt, diagonal_is h (omega arith)) at (corner_down s h) in
          omega (arith, is_eqs (is_add (is_pos (corner_of s h)) (is_pos (column_of s (suc h)))) (is_add (is_pos (corner_of s (suc h))) (is_pos (diagonal_of s h))) e);
      first =
          let e = rw (corner_is 0 (omega arith), column_is 0 (omega arith)) at (corner_first s) in
          omega (arith, is_eqs (is_pos (corner_of s 0)) (is_pos (column_of s 0)) e);
      less = λ h lt.
          let l = rw (corner_is (suc h) lt, column_is (suc h) lt) at (rest_least h lt) in
          omega (arith, is_le (is_pos 1) (is_minus (is_pos (corner_of s (suc h))) (is_pos (column_of s (suc h)))) l);
    }
