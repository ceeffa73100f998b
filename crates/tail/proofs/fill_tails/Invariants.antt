-- The loop's invariant: the years before i pass question 19, and their tail payments are stored. Assumes nothing.
use mathlib.Core.Path.{◌≡◌}
use mathlib.Core.Bool.{true}
use Prim.Native.Nat.{◌-◌, ◌≤◌}
use lib.Dec.{leb}
use lib.Seq.{sets}
use Rattle.rules.specs.Lists.{up_to, below, every}
use Rattle.rules.specs.Tail.{tail_average, tail_payment, most_tail_average}
use Rattle.tail.proofs.fill_tails.Given as goal

abbrev pub invariant-loop-i : goal.invariant-loop-i
invariant-loop-i l =
    (l.i ≤ l.n)
    × ((l.tails ≡ sets l.fn.tails 0 (up_to (tail_payment l.exposures l.first l.indices) l.i))
    × (every (λ i. leb (tail_average l.first l.indices i) most_tail_average) (below l.i) ≡ true))

abbrev pub decreases-loop-i : goal.decreases-loop-i
decreases-loop-i l = l.n - l.i
