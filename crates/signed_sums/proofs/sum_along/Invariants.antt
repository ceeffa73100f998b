-- The loop's invariant: `sum` is the sum of the entries before the one of turn i. Assumes nothing.
use Prim.Native.Nat.{ℕ, ◌+◌, ◌-◌, ◌*◌, ◌≤◌}
use mathlib.Core.List.{List}
use lib.IntN.{ℤ, pos}
use lib.ListN.{get_or}
use mathlib.Core.Path.{◌≡◌}
use mir.Syntax.{w64}
use mir.Val.{of_z}
use Rattle.rules.specs.Triangle.{sum_to}
use Rattle.signed_sums.proofs.sum_along.Given as goal

-- the entry of turn i
abbrev along : List ℤ → ℕ → ℕ → ℕ → ℤ
along values start stride i = get_or values (start + i * stride) (pos 0)

abbrev pub invariant-loop-i : goal.invariant-loop-i
invariant-loop-i l = (l.i ≤ l.n) × (l.sum ≡ sum_to (along l.values l.start l.stride) l.i)

abbrev pub decreases-loop-i : goal.decreases-loop-i
decreases-loop-i l = l.n - l.i
