-- What the findings of questions 18 and 19 name is so: arrays that hold the figures' own give them, and the year that 19 names has an average above the most.
-- Assumes nothing.
use mathlib.Core.Path.{◌≡◌}
use mathlib.Core.Bool.{true, false}
use mathlib.Core.List.{List}
use Prim.Native.Nat.{ℕ, ◌+◌, ◌*◌, ◌≤◌, ◌<◌, ◌^◌}
use native.Mathlib.Nat.{mul-le-mul, div-le_self}
use native.Mathlib.Omega.{arith}
use borrow.Author.Tests.{leb-true}
use lib.Dec.{leb}
use lib.IntN.{pos}
use lib.ListN.{get_or}
use Rattle.rules.specs.Record.{Figures}
use Rattle.rules.specs.Separation.{billion}
use Rattle.rules.specs.Tail.{first_tail_average, tail_average, most_tail_average, first_tail_average_passes, tail_averages_pass}
use Rattle.rules.specs.Results.{first_tail_average_of}
use Rattle.reading.specs.Reading.{Sound}
use Rattle.totals.specs.CellSizes.{most_average}
use Rattle.averages.proofs.Rounding.{average_most}
use Rattle.reasons.proofs.Counted.{counted, stops_below}
use Rattle.tail.specs.Tailable.{years_carried}
use Rattle.finding.specs.Places.{origin_year, found}
use Rattle.tail_findings.specs.TailFindings.{tail_finding, first_average_over, tail_average_finding}

-- t_0 is at most 10^12
pub average_fits : (f : Figures) → Sound f → first_tail_average_of f ≤ most_average
unfolding first_tail_average_of first_tail_average
average_fits f good = average_most (pos f.tail) (get_or f.exposures 0 0) good.tail (good.exposures 0 (omega arith)).0

-- of the amount a and the exposures n
module _ (f : Figures) (a : ℕ) (n : List ℕ) (ea : a ≡ f.tail) (en : n ≡ f.exposures) where
  pub average_is : first_tail_average a n ≡ first_tail_average_of f
  unfolding first_tail_average_of
  average_is = rw (ea, en)

  pub tail_is : found origin_year 0 0 (pos a) (pos (get_or n 0 0)) (pos (first_tail_average a n)) ≡ tail_finding f
  unfolding tail_finding
  tail_is = rw (average_is, ea, en)

-- t_0 is at most S where question 18 says yes
pub average_low : (f : Figures) → first_tail_average_passes (first_tail_average_of f) ≡ true → first_tail_average_of f ≤ billion
unfolding first_tail_average_passes
average_low f q = leb-true (first_tail_average_of f) billion q

-- and above S where it says no
pub average_no : (f : Figures) → first_tail_average_passes (first_tail_average_of f) ≡ false → leb (first_tail_average_of f) billion ≡ false
unfolding first_tail_average_passes
average_no f q = q

-- the figures of year i fit 64 bits with a sign, where t_0 is at most S
pub carried_fits : (f : Figures) → Sound f → (t : ℕ) (e : List ℕ) (i y : ℕ) → t ≡ first_tail_average_of f → e ≡ f.indices → first_tail_average_of f ≤ billion → y ≡ tail_average t e i
    → (y < 2 ^ 63) × ((get_or e i 0 < 2 ^ 63) × (get_or e 0 0 < 2 ^ 63))
unfolding tail_average
carried_fits f good t e i y et ee low ey =
    let a = first_tail_average_of f in
    let product = mul-le-mul low (good.indices i) in
    rw (ey, et, ee)
    (omega (arith, div-le_self (a * get_or f.indices i 0) (get_or f.indices 0 0), product), (omega (arith, good.indices i), omega (arith, good.indices 0)))

-- k, t_0 and the indices e
pub carried_is : (f : Figures) (k t : ℕ) (e : List ℕ) (i : ℕ) → k ≡ f.k → t ≡ first_tail_average_of f → e ≡ f.indices → i ≡ years_carried k t e
    → found origin_year i 0 (pos (tail_average t e i)) (pos (get_or e i 0)) (pos (get_or e 0 0)) ≡ tail_average_finding f
unfolding tail_average_finding first_average_over years_carried
carried_is f k t e i ek et ee ei = rw (ei, ek, et, ee)

pub year_is : (f : Figures) (k t : ℕ) (e : List ℕ) → k ≡ f.k → t ≡ first_tail_average_of f → e ≡ f.indices → years_carried k t e ≡ first_average_over f
unfolding first_average_over years_carried
year_is f k t e ek et ee = rw (ek, et, ee)

-- the year that question 19 names is one of the years 0 to k, and its t_i is above the most
module _ (f : Figures) (no : tail_averages_pass f.k (first_tail_average_of f) f.indices ≡ false) where
  over_within : first_average_over f < f.k + 1
  unfolding tail_averages_pass first_average_over
  over_within = stops_below (λ i. leb (tail_average (first_tail_average_of f) f.indices i) most_tail_average) (f.k + 1) no

  pub over_year : first_average_over f ≤ f.k
  over_year = omega (arith, over_within)

  pub over_no : leb (tail_average (first_tail_average_of f) f.indices (first_average_over f)) most_tail_average ≡ false
  unfolding first_average_over
  over_no = (counted (λ i. leb (tail_average (first_tail_average_of f) f.indices i) most_tail_average) (f.k + 1)).stop over_within
