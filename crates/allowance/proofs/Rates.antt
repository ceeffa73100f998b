-- The rates of a ULAE reserve, each at most M: what was reported after a year, the weight and the ratio. Assumes nothing.
use mathlib.Core.Path.{◌≡◌}
use mathlib.Core.Bool.{Bool, true, false, cond}
use Prim.Native.Nat.{ℕ, ◌+◌, ◌≤◌}
use mathlib.Core.List.{List}
use native.Mathlib.Omega.{arith}
use borrow.Author.Tests.{leb-true}
use lib.Dec.{leb}
use lib.IntN.{ℤ, pos}
use lib.ListN.{take}
use lib.Signed.{le_z}
use Rattle.rules.specs.Lists.{total}
use Rattle.rules.specs.Record.{Figures, million}
use Rattle.rules.specs.Expense.{ratio_pass, plain_ratio, reported_after}
use Rattle.rules.specs.Growth.{corrects, corrected_ratio, corrected_ratio_passes, used_ratio}
use Rattle.laws.proofs.Signed.{part_most}
use Rattle.laws.proofs.Totals.{rest_most}
use Rattle.laws.proofs.Lists.{both_right}

-- the three rates, as the reserve's law takes them
pub record Rates (f : Figures) (p : ℕ) : Type 0 where
  pub reporting : (i : ℕ) → i ≤ f.k → reported_after f.k f.reporting i ≤ million
  pub weight : f.weight ≤ million
  pub ratio : p ≤ million

-- the ratio, once question 12 has said yes
pub ratio_most : (paid : ℤ) (spent : ℕ) → ratio_pass paid spent ≡ true → plain_ratio paid spent ≤ million
unfolding ratio_pass plain_ratio
ratio_most paid spent q12 = part_most million spent paid (both_right (le_z (pos 1) paid) (le_z (pos spent) paid) q12)

-- the ratio that a valuation year uses, once question 17 has said yes too
pub used_most : (year plain divisor : ℕ) → plain ≤ million → cond (corrects year) (corrected_ratio_passes (corrected_ratio plain divisor)) true ≡ true → used_ratio year plain divisor ≤ million
unfolding used_ratio corrected_ratio_passes
used_most year plain divisor q12 q17 = go (corrects year) q17
  where
    go : (b : Bool) → cond b (leb (corrected_ratio plain divisor) million) true ≡ true → cond b (corrected_ratio plain divisor) plain ≤ million
    go true q = leb-true (corrected_ratio plain divisor) million q
    go false q = q12

-- what is reported after a year, where the reporting shares sum to M
pub reported_most : (k : ℕ) (b : List ℕ) → total (take (k + 1) b) ≡ million → (i : ℕ) → i ≤ k → reported_after k b i ≤ million
unfolding reported_after
reported_most k b sum i le = rest_most b (k + 1) i million (omega arith) sum
