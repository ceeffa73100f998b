-- How large a future level, a payment and a row of payments can be. Assumes nothing.
use mathlib.Core.List.{List}
use Prim.Native.Nat.{ℕ, ◌+◌, ◌-◌, ◌*◌, ◌/◌, ◌≤◌, ◌<◌}
use native.Mathlib.Nat.{mul-le-mul}
use native.Mathlib.Omega.{arith}
use lib.ListN.{get_or}
use Rattle.rules.specs.Lists.{total}
use Rattle.rules.specs.Record.{million}
use Rattle.rules.specs.Separation.{billion}
use Rattle.rules.specs.Completion.{payment_of, payment, payment_row}
use Rattle.completion.specs.Asked.{Completable, most_payment}
use Rattle.laws.proofs.Totals.{total_each}

-- the unit of a payment is at most 5 × 10^9
pub unit_most : (share level : ℕ) → share ≤ billion → level ≤ 5 * billion → share * level / billion ≤ 5 * billion
unit_most share level s l = omega (arith, mul-le-mul s l)

-- a payment is at most the most of one
pub payment_most : (claims share level : ℕ) → claims ≤ million → share ≤ billion → level ≤ 5 * billion → payment_of claims share level ≤ most_payment
unfolding payment_of
payment_most claims share level n s l = omega (arith, mul-le-mul n (unit_most share level s l))

-- a limit of every entry
abbrev AtMost : ℕ → ℕ → Type 0
AtMost most x = x ≤ most

module _ (k : ℕ) (n r l : List ℕ) (c : Completable k n r l) where
  -- no payment is above it
  pub cell_most_lem : (i j : ℕ) → payment k n r l i j ≤ most_payment
  unfolding payment
  cell_most_lem i j = payment_most (get_or n i 0) (get_or r j 0) (get_or l (i + j - k - 1) 0) (c.exposures i) (c.shares j) (c.levels (i + j - k - 1))

  -- a row has at most fifteen payments
  pub row_most_lem : (i : ℕ) → i < 16 → total (payment_row k n r l i) ≤ 15 * most_payment
  unfolding payment_row
  row_most_lem i h = omega (arith, total_each _ most_payment i (λ m l. cell_most_lem i (k + 1 - i + m)))
