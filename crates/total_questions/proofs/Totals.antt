-- The walk can be made over the totals of a square. Assumes nothing.
use mathlib.Core.Path.{◌≡◌}
use mathlib.Core.Bool.{true}
use mathlib.Core.List.{List}
use Prim.Native.Nat.{ℕ, suc, ◌-◌}
use native.Mathlib.Omega.{arith}
use lib.IntN.{ℤ}
use Rattle.rules.specs.Separation.{rests_pass}
use Rattle.totals.proofs.TotalsMost.{diagonal_most, corner_most}
use Rattle.totals.proofs.Whole.{totals}
use Rattle.corners.specs.Corners.{TotalsOf, CornersOf}
use Rattle.total_questions.specs.TotalQuestions.{Ready}

-- what the walk asks, where question 8 says yes
pub ready : (s : List (List ℤ)) (k : ℕ) (v d t : List ℕ) → TotalsOf s k v d → rests_pass s k ≡ true → CornersOf s k t → Ready v d t k
ready s k v d t of q8 corners = record {
  rest = λ i p q.
      let e : suc (i - 1) ≡ i = omega arith in
      rw (of.column i q, corners i q) (rw e at ((totals s k of.pass q8 of.outside).less (i - 1) (omega arith)));
  corner = λ i q. rw (corners i q) (corner_most s k of.few of.outside of.pass q8 i q);
  diagonal = λ i q. rw (of.diagonal i q) (diagonal_most s k of.few of.outside of.pass i q);
}
