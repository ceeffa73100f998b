-- Where the origin years of a history start among its cells. Assumes nothing.
use mathlib.Core.Path.{◌≡◌, sym, ◌∙◌}
use mathlib.Core.List.{map}
use Prim.Native.Nat.{ℕ, zero, suc, ◌+◌, ◌-◌, ◌*◌, ◌^◌, ◌≤◌, ◌<◌}
use native.Mathlib.Nat.{add-zero, add-suc}
use native.Mathlib.Numerals.{add-one}
use native.Mathlib.Omega.{arith}
use Rattle.std.specs.List.{sum, range_with_len}
use Rattle.rules.specs.Lists.{total}
use Rattle.laws.proofs.Library.{total_is_sum}
use Rattle.rules.specs.History.{most_history, most_width, development_years, history_start, history_cells}

module _ (years : ℕ) where
  -- how many cells an origin year has
  pub years_most : (i : ℕ) → development_years years i ≤ most_width
  unfolding development_years
  years_most i = omega arith

  -- where the origin year after i starts
  pub start_more : (i : ℕ) → history_start years (i + 1) ≡ history_start years i + development_years years i
  unfolding history_start
  start_more i = rw (add-one i)

  -- sixteen cells an origin year at most
  pub start_most : (i : ℕ) → history_start years i ≤ most_width * i
  unfolding history_start
  start_most zero = omega arith
  start_most (suc i) = omega (arith, years_most i, start_most i)

  -- the cells of origin year i stand within those of all
  starts_rise : (i d : ℕ) → history_start years i ≤ history_start years (i + d)
  unfolding history_start
  starts_rise i zero = rw (add-zero i) (omega arith)
  starts_rise i (suc d) = rw (add-suc i d) (omega (arith, starts_rise i d))

  pub year_within : (i : ℕ) → i < years → history_start years i + development_years years i ≤ history_cells years
  unfolding history_cells
  year_within i h =
      let e : i + 1 + (years - (i + 1)) ≡ years = omega arith in
      let rise : history_start years (i + 1) ≤ history_start years years = rw e at (starts_rise (i + 1) (years - (i + 1))) in
      omega (arith, start_more i)

-- the cells of n origin years from i on, one after another
pub years_sum : (years i n : ℕ) → total (map (development_years years) (range_with_len i n)) + history_start years i ≡ history_start years (i + n)
unfolding total
years_sum years i zero = rw (add-zero i) (omega arith)
years_sum years i (suc n) =
    let e : i + suc n ≡ i + 1 + n = omega arith in
    rw e (omega (arith, years_sum years (i + 1) n, start_more years i))

-- those of all
pub all_years : (years : ℕ) → sum (map (development_years years) (range_with_len 0 years)) ≡ history_cells years
unfolding history_cells history_start
all_years years =
    let e : 0 + years ≡ years = omega arith in
    sym (total_is_sum (map (development_years years) (range_with_len 0 years))) ∙ omega (arith, rw e at (years_sum years 0 years))

-- at most sixteen each
pub cells_fit : (years : ℕ) → years ≤ most_history → sum (map (development_years years) (range_with_len 0 years)) < 2 ^ 64
unfolding history_cells
cells_fit years h = omega (arith, all_years years, start_most years years)
