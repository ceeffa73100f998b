-- The loop's invariant: the years before h pass question 13, and their factors are stored. Assumes nothing.
use mathlib.Core.Path.{◌≡◌}
use mathlib.Core.Bool.{true}
use Prim.Native.Nat.{◌≤◌}
use lib.Seq.{sets}
use Rattle.rules.specs.Lists.{up_to, below, every}
use Rattle.ladder.proofs.Stops.{factor_at, passes}
use Rattle.ladder.proofs.development_factors.Given as goal

abbrev pub invariant-loop-h : goal.invariant-loop-h
invariant-loop-h l =
    (l.h ≤ l.k)
    × ((every (passes l.k l.columns l.paid) (below l.h) ≡ true)
    × (l.factors ≡ sets l.fn.factors 0 (up_to (factor_at l.k l.columns l.paid) l.h)))
