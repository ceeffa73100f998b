-- `t` is T of year m, and question 8 says yes of the years up to it. Assumes nothing.
use mathlib.Core.Path.{◌≡◌}
use mathlib.Core.Bool.{true}
use Prim.Native.Nat.{ℕ, ◌+◌, ◌-◌, ◌≤◌}
use lib.IntN.{ℤ, pos}
use lib.ListN.{get_or}
use Rattle.rules.specs.Lists.{below, every}
use Rattle.triangle_findings.specs.TriangleFindings.{rest_passes_of, corner_by}
use Rattle.triangle_findings.proofs.rest_found.Given as goal

abbrev pub invariant-loop-m : goal.invariant-loop-m
invariant-loop-m l =
    let v : ℕ → ℤ = λ j. get_or l.columns j (pos 0) in
    let corner : ℕ → ℤ = corner_by v (λ h. get_or l.diagonals h (pos 0)) in
    (l.m ≤ l.k) × ((l.t ≡ corner l.m) × (every (λ m. rest_passes_of corner v (m + 1)) (below l.m) ≡ true))

abbrev pub decreases-loop-m : goal.decreases-loop-m
decreases-loop-m l = l.k - l.m
