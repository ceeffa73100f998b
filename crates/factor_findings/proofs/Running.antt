-- The running shares by the shares, and the finding of question 9: where it says no, the running share of year 0 is 0. Assumes nothing.
use mathlib.Core.Path.{◌≡◌, refl}
use mathlib.Core.Bool.{false}
use mathlib.Core.List.{List}
use Prim.Native.Nat.{ℕ, zero, suc, ◌+◌, ◌-◌, ◌≤◌, ◌<◌}
use native.Mathlib.Omega.{arith}
use borrow.Author.Tests.{lt-leb, leb-false}
use lib.Dec.{leb}
use lib.IntN.{ℤ, pos}
use Rattle.rules.specs.Lists.{total, up_to, every}
use Rattle.rules.specs.Separation.{column_of, corner_of, running_of, share_of, running_pass}
use Rattle.laws.proofs.Totals.{total_none, total_more}
use Rattle.factors.proofs.Parts.{below_part_most}
use Rattle.separation.proofs.Steps.{running_below, running_least}
use Rattle.entries.proofs.Leading.{leading_stop}
use Rattle.reasons.proofs.Counted.{counted, stops_below}
use Rattle.finding.specs.Places.{development_year, found}
use Rattle.factor_findings.specs.FactorFindings.{refused_running, running_finding}

module _ (q : List (List ℤ)) (k : ℕ) where
  -- no running share is above that of the next year
  running_next : (h : ℕ) → h < k → running_of q k h ≤ running_of q k (suc h)
  running_next h l =
      let e : suc h - 1 ≡ h = omega arith in
      omega (arith, rw e at (running_below q k (suc h) (omega arith) l), below_part_most (running_of q k (suc h)) (corner_of q (suc h)) (column_of q (suc h)))

  -- the shares up to a year add up to its running share
  pub shares_sum : (h : ℕ) → h ≤ k → total (up_to (share_of q k) (suc h)) ≡ running_of q k h
  unfolding share_of
  shares_sum zero l = omega (arith, total_more (share_of q k) 0, total_none (share_of q k))
  shares_sum (suc h) l = omega (arith, total_more (share_of q k) (suc h), shares_sum h (omega arith), running_next h l)

  -- the year that question 9 says no of, and its running share
  pub running_refused : running_pass q k ≡ false → (refused_running q k < k + 1) × (leb 1 (running_of q k (refused_running q k)) ≡ false)
  unfolding running_pass refused_running
  running_refused no9 =
      let l = stops_below (λ h. leb 1 (running_of q k h)) (k + 1) no9 in
      (l, (counted (λ h. leb 1 (running_of q k h)) (k + 1)).stop l)

  -- that of year 0 is 0 then
  first_none : running_pass q k ≡ false → running_of q k 0 ≡ 0
  first_none no9 =
      let refused = running_refused no9 in
      omega (arith, leb-false 1 (running_of q k (refused_running q k)) refused.1, running_least q k (refused_running q k) (omega (arith, refused.0)))

  first_year : running_pass q k ≡ false → refused_running q k ≡ 0
  unfolding refused_running up_to every
  first_year no9 = leading_stop (λ h. leb 1 (running_of q k h)) (k + 1) 0 (omega arith) refl (lt-leb 1 (running_of q k 0) (omega (arith, first_none no9)))

  pub running_is : running_pass q k ≡ false → found development_year 0 0 (pos 0) (pos 0) (pos 0) ≡ running_finding q k
  unfolding running_finding
  running_is no9 = rw (first_year no9, first_none no9)

  -- question 9 says no of the year that is found
  pub running_no : running_pass q k ≡ false → (leb 1 (running_of q k (running_finding q k).column) ≡ false) × ((running_finding q k).column ≤ k)
  unfolding running_finding
  running_no no9 = let refused = running_refused no9 in (refused.1, omega (arith, refused.0))
