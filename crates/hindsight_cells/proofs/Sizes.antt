-- Where a forecast stands, and how many rows and columns a table has. Assumes nothing.
use mathlib.Core.Path.{◌≡◌}
use mathlib.Core.Bool.{Bool, true, false, cond}
use Prim.Native.Nat.{ℕ, zero, suc, ◌+◌, ◌-◌, ◌≤◌, ◌<◌}
use native.Mathlib.Omega.{arith}
use lib.Dec.{eqb, ltb}
use borrow.Author.Tests.{ne_eqb, ltb-true}
use Rattle.rules.specs.Hindsight.{most_settings}
use Rattle.hindsight_places.specs.Places.{LastYear}
use Rattle.hindsight_cells.specs.Cells.{settings_table, steps_table, forecast_at, rows_of, columns_of}

-- from development year 1 on, in a step of the record
pub forecast_inside : (k i j : ℕ) → forecast_at k i j ≡ true → (1 ≤ j) × (i + j < k)
unfolding forecast_at
forecast_inside k i zero h = let never : ◌≡◌ {A = ℕ} 0 1 = cc in (omega arith, omega arith)
forecast_inside k i (suc j) h =
    let below : ltb (i + suc j) k ≡ true = rw (ne_eqb (suc j) 0 (λ e. omega arith)) at h in
    (omega arith, ltb-true (i + suc j) k below)

module _ (t k n : ℕ) (known : LastYear k) (few : n ≤ most_settings) where
  pub rows_most : rows_of t k n ≤ 14
  unfolding rows_of
  rows_most = go (eqb t settings_table)
    where
      go : (b : Bool) → cond b n (k - 1) ≤ 14
      go true = omega arith
      go false = omega arith

  pub columns_most : columns_of t k n ≤ 15
  unfolding columns_of
  columns_most = go (eqb t settings_table) (eqb t steps_table)
    where
      go : (b d : Bool) → cond b 2 (cond d (n + 1) k) ≤ 15
      go true d = omega arith
      go false true = omega arith
      go false false = omega arith

  pub columns_least : 1 ≤ columns_of t k n
  unfolding columns_of
  columns_least = go (eqb t settings_table) (eqb t steps_table)
    where
      go : (b d : Bool) → 1 ≤ cond b 2 (cond d (n + 1) k)
      go true d = omega arith
      go false true = omega arith
      go false false = omega arith
