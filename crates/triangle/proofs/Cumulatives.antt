-- The cumulatives of a row: their sum as the code takes it one increment a turn, and what question 6 says of each. Assumes nothing.
use mathlib.Core.Path.{◌≡◌, refl, sym, ap, ◌∙◌}
use mathlib.Core.Bool.{Bool, true, ◌&&◌, false≢true}
use mathlib.Core.List.{List}
use Prim.Native.Nat.{ℕ, suc, ◌+◌, ◌-◌, ◌*◌, ◌≤◌, ◌<◌}
use native.Mathlib.Decide.{dec_le}
use native.Mathlib.Omega.{arith}
use native.Mathlib.Numerals.{add-one}
use borrow.Author.Tests.{leb-true, le-leb, lt-leb}
use lib.IntN.{ℤ, pos, negsuc, nat_abs, ◌+ℤ◌}
use lib.ListN.{get_or}
use lib.Signed.{le_z}
use mir.Syntax.{w64}
use mir.Val.{SFits, to_z, of_z}
use mir.Facts.{to_z-of_z}
use Rattle.rules.specs.Lists.{below, every}
use Rattle.rules.specs.Record.{most_amount}
use Rattle.rules.specs.Triangle.{row_start, paid_of, sum_to, cumulative_of, most_cumulative, row_passes, given_cumulative}
use Rattle.laws.proofs.Adding.{sum_to_read, sum_to_step, step_fits, step_read}
use Rattle.laws.proofs.Lists.{both_right, every_up_to}
use Rattle.laws.proofs.Totals.{total_more, total_each}
use Rattle.laws.proofs.Signed.{held, size_fits}
use Rattle.triangle.specs.Columns.{Increments, cumulative_in, column_sum}

-- question 6 of one cumulative
abbrev pub passes : ℕ → List ℤ → ℕ → ℕ → Bool
passes k p i j = le_z (pos 0) (cumulative_of k p i j) && le_z (cumulative_of k p i j) (pos most_cumulative)

module _ (k : ℕ) (p : List ℤ) (i : ℕ) (amounts : Increments p) where
  -- no increment's size is above 10^10
  pub increment_most : (j : ℕ) → nat_abs (paid_of k p i j) ≤ most_amount
  unfolding paid_of
  increment_most j = amounts (row_start k i + j)

  -- increment j as it is read
  pub increment_read : (at j : ℕ) → at ≡ row_start k i → held (get_or p (at + j) (pos 0)) ≡ paid_of k p i j
  unfolding paid_of
  increment_read at j e =
      to_z-of_z (size_fits (get_or p (at + j) (pos 0)) (omega (arith, amounts (at + j)))) ∙ ap (λ (a : ℕ). get_or p (a + j) (pos 0)) e

  -- the sum of all increments of the row is read as its last cumulative
  pub last_read : (s : ℕ) → k < 16 → i ≤ k → s ≡ of_z w64 (sum_to (paid_of k p i) (k + 1 - i)) → to_z w64 s ≡ cumulative_of k p i (k - i)
  unfolding cumulative_of
  last_read s h l e =
      let last : k + 1 - i ≡ suc (k - i) = omega arith in
      rw (← last) (sum_to_read (paid_of k p i) most_amount increment_most (k + 1 - i) s (omega arith) e)

  module _ (at : ℕ) (e : at ≡ row_start k i) (j s : ℕ) (h : j < 16) (held-sum : s ≡ of_z w64 (sum_to (paid_of k p i) j)) where
    -- increment j added to the sum of those before it: it fits, it is the sum of one more, and it is read as the cumulative
    pub more_fits : SFits w64 (to_z w64 s +ℤ held (get_or p (at + j) (pos 0)))
    unfolding paid_of
    more_fits = rw e (step_fits (paid_of k p i) most_amount increment_most j s (omega arith) held-sum)

    pub more_is : of_z w64 (to_z w64 s +ℤ held (get_or p (at + j) (pos 0))) ≡ of_z w64 (sum_to (paid_of k p i) (j + 1))
    unfolding paid_of
    more_is = rw e (ap (of_z w64) (sum_to_step (paid_of k p i) most_amount increment_most j s (omega arith) held-sum))

    pub more_read : held (to_z w64 s +ℤ held (get_or p (at + j) (pos 0))) ≡ cumulative_of k p i j
    unfolding paid_of cumulative_of
    more_read = rw (e, ← add-one j) (step_read (paid_of k p i) most_amount increment_most j s (omega arith) held-sum)

-- a signed number from 0 to m is a whole number up to m
whole : (z : ℤ) (m : ℕ) → le_z (pos 0) z && le_z z (pos m) ≡ true → (z ≡ pos (nat_abs z)) × (nat_abs z ≤ m)
whole (pos n) m e = (refl, leb-true n m (both_right (le_z (pos 0) (pos n)) _ e))
whole (negsuc n) m e = absurd (false≢true e)

module _ (k : ℕ) (p : List ℤ) (i : ℕ) (pass : row_passes k p i ≡ true) (j : ℕ) (h : i + j ≤ k) where
  both : (cumulative_of k p i j ≡ pos (given_cumulative k p i j)) × (given_cumulative k p i j ≤ most_cumulative)
  unfolding row_passes given_cumulative
  both = whole (cumulative_of k p i j) most_cumulative (every_up_to _ (λ c. c) (k + 1 - i) j pass (omega arith))

  -- a cumulative of a row that passes is a whole number
  pub cell_is : cumulative_of k p i j ≡ pos (given_cumulative k p i j)
  cell_is = both.0

  -- of at most 10^11
  pub cell_most_lem : given_cumulative k p i j ≤ most_cumulative
  cell_most_lem = both.1

module _ (k : ℕ) (p : List ℤ) where
  -- a cumulative where it is given, and past the diagonal
  pub given_in_lem : (i j : ℕ) → i + j ≤ k → cumulative_in k p i j ≡ given_cumulative k p i j
  unfolding cumulative_in
  given_in_lem i j h = rw (le-leb (i + j) k h)

  pub past_in : (i j : ℕ) → k < i + j → cumulative_in k p i j ≡ 0
  unfolding cumulative_in
  past_in i j h = rw (lt-leb (i + j) k h)

  in_most : (i j : ℕ) → row_passes k p i ≡ true → cumulative_in k p i j ≤ most_cumulative
  in_most i j pass = go (dec_le (i + j) k)
    where
      go : Dec (i + j ≤ k) → cumulative_in k p i j ≤ most_cumulative
      go (yes l) = omega (arith, given_in_lem i j l, cell_most_lem k p i pass j l)
      go (no l) = omega (arith, past_in i j (omega arith))

  -- the sum of a column over rows that pass
  pub column_most : (rows j : ℕ) → every (row_passes k p) (below rows) ≡ true → column_sum k p rows j ≤ rows * most_cumulative
  unfolding column_sum
  column_most rows j pass = total_each (λ i. cumulative_in k p i j) most_cumulative rows (λ i l. in_most i j (every_up_to _ (λ c. c) rows i pass l))

  sum_more : (i j : ℕ) → column_sum k p i j + cumulative_in k p i j ≡ column_sum k p (i + 1) j
  unfolding column_sum
  sum_more i j = rw (add-one i) (sym (total_more (λ r. cumulative_in k p r j) i))

  -- the sum of a column with one row more, where its cumulative is given and where it is not
  pub sum_given : (i j : ℕ) → i + j ≤ k → column_sum k p i j + given_cumulative k p i j ≡ column_sum k p (i + 1) j
  sum_given i j h = rw (← given_in_lem i j h) (sum_more i j)

  pub sum_past : (i j : ℕ) → k < i + j → column_sum k p i j ≡ column_sum k p (i + 1) j
  sum_past i j h = omega (arith, sum_more i j, past_in i j h)
