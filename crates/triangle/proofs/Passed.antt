-- What callers use of a triangle that passes question 6: every row is counted, its cumulatives are at most 10^11, the sums of their columns are the sums
-- of each development year, and the paid cumulatives sum to the total of all increments. Assumes nothing.
use mathlib.Core.Path.{◌≡◌, sym, ap, ap₂, ◌∙◌}
use mathlib.Core.Bool.{true}
use mathlib.Core.List.{List}
use Prim.Native.Nat.{ℕ, zero, suc, ◌+◌, ◌-◌, ◌*◌, ◌≤◌, ◌<◌, zero-le}
use native.Mathlib.Omega.{arith}
use lib.IntN.{ℤ, pos, ◌+ℤ◌}
use lib.ListN.{get_or, take}
use lib.Seq.{take_at}
use Rattle.rules.specs.Lists.{total, up_to, padded}
use Rattle.rules.specs.Triangle.{row_start, paid_of, sum_to, cumulative_of, most_cumulative, row_passes, cumulatives_pass, given_cumulative, paid_to}
use Rattle.rules.specs.Expense.{paid_total}
use Rattle.rules.specs.Ladder.{developed, base}
use Rattle.laws.proofs.Lists.{length_up_to, get_d_up_to, every_up_to}
use Rattle.laws.proofs.Joined.{up_to_all, padded_all}
use Rattle.laws.proofs.TriangleRows as starts
use Rattle.laws.proofs.Totals.{total_none, total_more, total_same, total_cut, sum_to_parts}
use Rattle.entries.proofs.Leading.{leading_all}
use Rattle.triangle.specs.Columns.{cumulative_in, column_sum, rows_passing}
use Rattle.triangle.proofs.Cumulatives.{cell_is, cell_most_lem, given_in_lem, past_in, column_most}

module _ (k : ℕ) (p : List ℤ) where
  -- a whole column is that of the given cumulatives
  column_is : (j : ℕ) → column_sum k p (k + 1) j ≡ total (up_to (λ i. given_cumulative k p i j) (k + 1 - j))
  unfolding column_sum
  column_is j =
      total_cut (λ i. cumulative_in k p i j) (k + 1 - j) (k + 1) (omega arith) (λ i l. past_in k p i j (omega arith))
      ∙ total_same (λ i. cumulative_in k p i j) (λ i. given_cumulative k p i j) (k + 1 - j) (λ i l. given_in_lem k p i j (omega arith))

  -- column h + 1 is A of development year h
  pub column_developed : k < 16 → (h : ℕ) → h < k → get_or (up_to (column_sum k p (k + 1)) 16) (h + 1) 0 ≡ developed k p h
  unfolding developed
  column_developed few h l =
      let rows : k + 1 - (h + 1) ≡ k - h = omega arith in
      rw (get_d_up_to (column_sum k p (k + 1)) 16 (h + 1) 0 (omega arith), ← rows) (column_is (h + 1))

  -- column h is B of development year h, and the last paid cumulative
  pub column_base : k < 16 → (h : ℕ) → h < k → get_or (up_to (column_sum k p (k + 1)) 16) h 0 ≡ base k p h + paid_to k p (k - h)
  unfolding base paid_to
  column_base few h l =
      let rows : k + 1 - h ≡ suc (k - h) = omega arith in
      let last : k - (k - h) ≡ h = omega arith in
      rw (get_d_up_to (column_sum k p (k + 1)) 16 h 0 (omega arith), last)
      (column_is h ∙ rw rows (total_more (λ i. given_cumulative k p i h) (k - h)))

  module _ (pass : cumulatives_pass k p ≡ true) where
    row_passes_lem : (i : ℕ) → i ≤ k → row_passes k p i ≡ true
    unfolding cumulatives_pass
    row_passes_lem i h = every_up_to (row_passes k p) (λ r. r) (k + 1) i pass (omega arith)

    -- every row is counted
    pub rows_all : rows_passing k p ≡ k + 1
    unfolding rows_passing cumulatives_pass
    rows_all = leading_all (row_passes k p) (k + 1) pass

    -- no cumulative is above 10^11
    pub cumulative_most : (i j : ℕ) → i + j ≤ k → given_cumulative k p i j ≤ most_cumulative
    cumulative_most i j h = cell_most_lem k p i (row_passes_lem i (omega arith)) j h

    -- nor a paid one in its array
    pub paid_most : (i : ℕ) → get_or (padded 16 0 (up_to (paid_to k p) (k + 1))) i 0 ≤ most_cumulative
    unfolding paid_to
    paid_most =
        padded_all (λ x. x ≤ most_cumulative) 0 zero-le 16 0 zero-le (up_to (paid_to k p) (k + 1))
        (up_to_all (λ x. x ≤ most_cumulative) 0 zero-le (paid_to k p) (k + 1) (λ i l. cumulative_most i (k - i) (omega arith)))

    -- no sum of a column is above sixteen of them
    pub column_sum_most : k < 16 → (h : ℕ) → get_or (up_to (column_sum k p (k + 1)) 16) h 0 ≤ 16 * most_cumulative
    unfolding cumulatives_pass
    column_sum_most few = up_to_all (λ x. x ≤ 16 * most_cumulative) 0 zero-le _ 16 (λ j l. omega (arith, column_most k p (k + 1) j pass))

    -- the increments of row i sum to its paid cumulative
    pub row_paid : (i : ℕ) → i ≤ k → sum_to (λ c. get_or p (row_start k i + c) (pos 0)) (k + 1 - i) ≡ pos (paid_to k p i)
    unfolding paid_of cumulative_of paid_to
    row_paid i h =
        let last : k + 1 - i ≡ suc (k - i) = omega arith in
        rw last (cell_is k p i (row_passes_lem i h) (k - i) (omega arith))

    -- those of the first i rows to the paid cumulatives of these
    rows_paid : (i : ℕ) → i ≤ k + 1 → sum_to (λ c. get_or p c (pos 0)) (row_start k i) ≡ pos (total (up_to (paid_to k p) i))
    unfolding row_start sum_to
    rows_paid zero h = ap pos (sym (total_none (paid_to k p)))
    rows_paid (suc i) h =
        sum_to_parts (λ c. get_or p c (pos 0)) (row_start k i) (k + 1 - i)
        ∙ ap₂ (λ (x y : ℤ). x +ℤ y) (rows_paid i (omega arith)) (row_paid i (omega arith))
        ∙ ap pos (sym (total_more (paid_to k p) i))

    -- the total of all increments
    pub paid_total_lem : k < 16 → paid_total k p ≡ pos (total (take (k + 1) (padded 16 0 (up_to (paid_to k p) (k + 1)))))
    unfolding paid_total padded
    paid_total_lem few =
        rw (← starts.rows_all k, take_at (up_to (paid_to k p) (k + 1)) _ (k + 1) (length_up_to (paid_to k p) (k + 1))) (rows_paid (k + 1) (omega arith))
