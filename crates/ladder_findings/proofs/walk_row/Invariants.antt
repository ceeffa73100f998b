-- The loop's invariant: the first t cumulatives past the diagonal are within the most, and `last` is the last of them. Assumes nothing.
use Rattle.std.proofs.Common.{◌≡◌, ◌≤◌, true}
use Rattle.rules.specs.Lists.{below, every}
use Rattle.rules.specs.Triangle.{most_cumulative}
use Rattle.rules.specs.Ladder.{completed}
use Rattle.ladder_findings.proofs.Within.{cell_passes}
use Rattle.ladder_findings.proofs.walk_row.Given as goal

abbrev pub invariant-loop-t : goal.invariant-loop-t
invariant-loop-t l =
    (l.last ≡ completed l.k l.paid l.factors l.i l.t)
    × ((l.last ≤ most_cumulative) × (every (cell_passes l.k l.paid l.factors l.i) (below l.t) ≡ true))
