-- Where a question says no, it says no at the place that is found: of questions 7 and 8. Assumes nothing.
use mathlib.Core.Path.{◌≡◌, refl, sym}
use mathlib.Core.Bool.{false}
use mathlib.Core.List.{List}
use Prim.Native.Nat.{ℕ, ◌+◌, ◌≤◌, ◌<◌}
use native.Mathlib.Decide.{dec_lt}
use native.Mathlib.Omega.{arith}
use lib.IntN.{ℤ, pos}
use lib.Signed.{le_z}
use Rattle.rules.specs.Triangle.{column_total, diagonal_total, corner_total, all_total}
use Rattle.rules.specs.Separation.{totals_pass, rests_pass}
use Rattle.reasons.specs.Reasons.{first_below}
use Rattle.reasons.proofs.Counted.{counted}
use Rattle.reasons.proofs.Why.{named_below, none_named}
use Rattle.triangle_findings.specs.TriangleFindings.{totals_finding, total_passes, rest_passes_of, refused_rest, rest_passes, rest_finding, rest_found}
use Rattle.triangle_findings.proofs.Totals.{column_found, diagonal_found, all_found}
use Rattle.triangle_findings.proofs.Rests.{rests_no, rest_below}

-- 7: the total that is found is below 0, or that of all is above S
module _ (q : List (List ℤ)) (k : ℕ) (no7 : totals_pass q k ≡ false) where
  column_no : first_below (column_total q) k < k + 1 → total_passes (totals_finding q k) ≡ false
  unfolding totals_finding total_passes
  column_no l = rw (sym (column_found (column_total q) (diagonal_total q) (all_total q) k _ refl l)) (named_below (column_total q) k l)

  diagonal_no : k + 1 ≤ first_below (column_total q) k → first_below (diagonal_total q) k < k + 1 → total_passes (totals_finding q k) ≡ false
  unfolding totals_finding total_passes
  diagonal_no m l = rw (sym (diagonal_found (column_total q) (diagonal_total q) (all_total q) k _ _ refl m refl l)) (named_below (diagonal_total q) k l)

  all_no : k + 1 ≤ first_below (column_total q) k → k + 1 ≤ first_below (diagonal_total q) k → total_passes (totals_finding q k) ≡ false
  unfolding totals_finding total_passes first_below
  all_no m l =
      let a = (counted (λ j. le_z (pos 0) (column_total q j)) (k + 1)).most in
      let b = (counted (λ h. le_z (pos 0) (diagonal_total q h)) (k + 1)).most in
      rw (sym (all_found (column_total q) (diagonal_total q) (all_total q) k _ _ refl m refl l)) (none_named q k no7 (omega arith) (omega arith))

  pub totals_no : total_passes (totals_finding q k) ≡ false
  totals_no = go (dec_lt (first_below (column_total q) k) (k + 1)) (dec_lt (first_below (diagonal_total q) k) (k + 1))
    where
      go : Dec (first_below (column_total q) k < k + 1) → Dec (first_below (diagonal_total q) k < k + 1) → total_passes (totals_finding q k) ≡ false
      go (yes l) m = column_no l
      go (no l) (yes m) = diagonal_no (omega arith) m
      go (no l) (no m) = all_no (omega arith) (omega arith)

-- 8: the development year that is found, from 1 to k, fails
pub rest_no : (q : List (List ℤ)) (k : ℕ) → rests_pass q k ≡ false
    → (rest_passes q (rest_finding q k).column ≡ false) × ((1 ≤ (rest_finding q k).column) × ((rest_finding q k).column ≤ k))
unfolding rest_finding rest_found refused_rest
rest_no q k no8 =
    let l : refused_rest (corner_total q) (column_total q) k ≤ k = rest_below (corner_total q) (column_total q) k (rests_no q k no8) in
    ((counted (λ m. rest_passes_of (corner_total q) (column_total q) (m + 1)) k).stop (omega arith), (omega arith, l))
