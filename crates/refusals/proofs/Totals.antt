-- Question 7's reason by the totals in the arrays. Assumes nothing.
use Prim.Native.Nat.{ℕ, ◌<◌}
use native.Mathlib.Omega.{arith}
use mathlib.Core.Path.{◌≡◌}
use mathlib.Core.List.{List}
use lib.IntN.{ℤ, pos}
use lib.ListN.{get_or}
use Rattle.rules.specs.Lists.{up_to}
use Rattle.rules.specs.Triangle.{column_total, diagonal_total}
use Rattle.laws.proofs.Lists.{get_d_up_to}
use Rattle.refusal_reasons.specs.RefusalReasons.{totals_reason}
use Rattle.refusal_reasons.proofs.Below.{reason_same}

-- the reason by the totals in the arrays is that by the totals of the square
pub reason_is : (q : List (List ℤ)) (k m : ℕ) (c d : List ℤ) → k ≡ m → k < 16
    → c ≡ up_to (column_total q) 16 → d ≡ up_to (diagonal_total q) 16
    → totals_reason (λ j. get_or c j (pos 0)) (λ h. get_or d h (pos 0)) k ≡ totals_reason (column_total q) (diagonal_total q) m
reason_is q k m c d e h ec ed =
    rw (ec, ed, e)
    (reason_same (λ j. get_or (up_to (column_total q) 16) j (pos 0)) (column_total q) (λ h. get_or (up_to (diagonal_total q) 16) h (pos 0)) (diagonal_total q) m
    (λ i l. get_d_up_to (column_total q) 16 i (pos 0) (omega arith)) (λ i l. get_d_up_to (diagonal_total q) 16 i (pos 0) (omega arith)))
