-- The words say what is so: a year that is named has a total below 0, and where none is named and question 7 says no, the averages together are too large; of the year that
-- is named of question 13 nothing is paid to develop from, or its factor is above 50. Assumes nothing.
use mathlib.Core.Path.{◌≡◌}
use mathlib.Core.Bool.{false}
use mathlib.Core.List.{List}
use Prim.Native.Nat.{ℕ, ◌+◌, ◌-◌, ◌≤◌, ◌<◌}
use native.Mathlib.Omega.{arith}
use borrow.Author.Tests.{le-leb, leb-false}
use lib.IntN.{ℤ, pos}
use lib.Signed.{le_z}
use Rattle.rules.specs.Triangle.{column_total, diagonal_total, all_total, given_cumulative}
use Rattle.rules.specs.Separation.{billion, totals_pass}
use Rattle.rules.specs.Ladder.{base, development_factor, most_factor, factor_passes, factors_pass}
use Rattle.laws.proofs.Totals.{total_at}
use Rattle.reasons.specs.Reasons.{first_below, first_refused}
use Rattle.reasons.proofs.Counted.{counted, all_pass, stops_below}

-- the total of the year that is named is below 0
pub named_below : (v : ℕ → ℤ) (k : ℕ) → first_below v k < k + 1 → le_z (pos 0) (v (first_below v k)) ≡ false
unfolding first_below
named_below v k l = (counted (λ i. le_z (pos 0) (v i)) (k + 1)).stop l

-- and where question 7 says no and no year is named, the averages add up to more than S
pub none_named : (q : List (List ℤ)) (k : ℕ) → totals_pass q k ≡ false → first_below (column_total q) k ≡ k + 1 → first_below (diagonal_total q) k ≡ k + 1
    → le_z (all_total q) (pos billion) ≡ false
unfolding totals_pass first_below
none_named q k h e f = rw (all_pass (λ j. le_z (pos 0) (column_total q j)) (k + 1) e, all_pass (λ h. le_z (pos 0) (diagonal_total q h)) (k + 1) f) at h

-- where question 13 says no there is a year that it says no of
pub refused_below : (a b : ℕ → ℕ) (k : ℕ) → factors_pass k a b ≡ false → first_refused a b k < k
unfolding factors_pass first_refused
refused_below a b k f = stops_below (λ h. factor_passes (a h) (b h)) k f

-- whose factor is above 50 × M where its B is not below 1
pub named_above : (a b : ℕ → ℕ) (k : ℕ) → factors_pass k a b ≡ false → 1 ≤ b (first_refused a b k)
    → most_factor < development_factor (a (first_refused a b k)) (b (first_refused a b k))
unfolding first_refused factor_passes
named_above a b k f l =
    let h = first_refused a b k in
    leb-false (development_factor (a h) (b h)) most_factor (rw (le-leb 1 (b h) l) at ((counted (λ h. factor_passes (a h) (b h)) k).stop (refused_below a b k f)))

-- and where B of year h is below 1, nothing is paid up to it for any origin year that has a later one
pub named_empty : (k : ℕ) (p : List ℤ) (h : ℕ) → base k p h < 1 → (i : ℕ) → i < k - h → given_cumulative k p i h ≡ 0
unfolding base
named_empty k p h l i m = omega (arith, total_at (λ i. given_cumulative k p i h) (k - h) i m)
