-- The loop's invariant: the first t cumulatives past the diagonal are stored and within the limit, and `a` is the last of them. Assumes nothing.
use mathlib.Core.Path.{◌≡◌}
use mathlib.Core.Bool.{true}
use Prim.Native.Nat.{◌≤◌}
use lib.Seq.{sets}
use Rattle.rules.specs.Lists.{up_to, every}
use Rattle.rules.specs.Triangle.{most_cumulative}
use Rattle.rules.specs.Ladder.{completed}
use Rattle.ladder.proofs.Stops.{within, past}
use Rattle.ladder.proofs.put_row.Given as goal

abbrev pub invariant-loop-t : goal.invariant-loop-t
invariant-loop-t l =
    (l.t ≤ l.i)
    × ((l.a ≡ completed l.k l.paid l.factors l.i l.t)
    × ((l.a ≤ most_cumulative)
    × ((every within (up_to (past l.k l.paid l.factors l.i) l.t) ≡ true) × (l.all ≡ sets l.fn.all l.at (up_to (past l.k l.paid l.factors l.i) l.t)))))
