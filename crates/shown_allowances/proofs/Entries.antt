-- Sums that the result list has: a provision is its row of payments and its tail payment, and the totals are those of their sections. Assumes nothing.
use Prim.Native.Nat.{ℕ, ◌+◌, ◌-◌, ◌≤◌}
use native.Mathlib.Omega.{arith}
use mathlib.Core.Path.{◌≡◌, sym, ◌∙◌}
use mathlib.Core.List.{List, ◌++◌}
use lib.IntN.{ℤ}
use Rattle.rules.specs.Lists.{total, up_to}
use Rattle.rules.specs.Record.{Figures}
use Rattle.rules.specs.Triangle.{future_start}
use Rattle.rules.specs.Completion.{payment, payment_row, provision, provisions}
use Rattle.rules.specs.Expense.{reserve}
use Rattle.rules.specs.Results.{payment_section, provision_section, provision_total_section, reserve_section, reserve_total_section, tail_section, factors_in, paid_in, levels_in, tails_in, provisions_in, used_ratio_in, results_of}
use Rattle.rules.specs.Demand.{printed}
use Rattle.laws.proofs.Totals.{total_same}
use Rattle.results.proofs.Printed.{payment_entry, provision_entry, provisions_entry, reserve_entry, reserves_entry, tail_entry}
use Rattle.results.proofs.Demanded.{tail_at}

-- of a result list of the years 0 to k
pub record Entries (k : ℕ) (list : List ℤ) : Type 0 where
  pub row : (i : ℕ) → i ≤ k
      → printed k list provision_section i ≡ total (up_to (λ m. printed k list payment_section (future_start i + m)) i) + printed k list tail_section i
  pub provisions : printed k list provision_total_section 0 ≡ total (up_to (printed k list provision_section) (k + 1))
  pub reserves : printed k list reserve_total_section 0 ≡ total (up_to (printed k list reserve_section) (k + 1))

module _ (year : ℕ) (f : Figures) (rest : List ℤ) where
  abbrev list : List ℤ
  list = results_of year f ++ rest

  abbrev paid : ℕ → ℕ → ℕ
  paid = payment f.k f.exposures (factors_in f).shares (levels_in f)

  -- the payments of a row by their places
  payments_are : (i : ℕ) → i ≤ f.k → total (payment_row f.k f.exposures (factors_in f).shares (levels_in f) i) ≡ total (up_to (λ m. printed f.k list payment_section (future_start i + m)) i)
  unfolding payment_row
  payments_are i h =
      total_same (λ m. paid i (f.k + 1 - i + m)) (λ m. printed f.k list payment_section (future_start i + m)) i
      (λ m l.
      let e : i + (f.k + 1 - i + m) - f.k - 1 ≡ m = omega arith in
      sym (rw e at (payment_entry year f rest i (f.k + 1 - i + m) h (omega arith) (omega arith))))

  row_is : (i : ℕ) → i ≤ f.k
      → printed f.k list provision_section i ≡ total (up_to (λ m. printed f.k list payment_section (future_start i + m)) i) + printed f.k list tail_section i
  unfolding provision
  row_is i h = provision_entry year f rest i h ∙ rw (tail_at f i h, tail_entry year f rest i h, payments_are i h)

  provisions_are : printed f.k list provision_total_section 0 ≡ total (up_to (printed f.k list provision_section) (f.k + 1))
  unfolding provisions
  provisions_are =
      provisions_entry year f rest
      ∙ total_same (provision f.k f.exposures (factors_in f).shares (levels_in f) (tails_in f)) (printed f.k list provision_section) (f.k + 1)
      (λ i l. sym (provision_entry year f rest i (omega arith)))

  reserves_are : printed f.k list reserve_total_section 0 ≡ total (up_to (printed f.k list reserve_section) (f.k + 1))
  reserves_are =
      reserves_entry year f rest
      ∙ total_same (reserve f.k (used_ratio_in year f) f.weight f.reporting (paid_in f) (provisions_in f)) (printed f.k list reserve_section) (f.k + 1)
      (λ i l. sym (reserve_entry year f rest i (omega arith)))

  pub entries : Entries f.k (results_of year f ++ rest)
  entries = record { row = row_is; provisions = provisions_are; reserves = reserves_are }
