-- The loop's invariant: `sum` is the sum of the first j increments of the row, and the cumulatives before j pass. Assumes nothing.
use Rattle.std.proofs.Common.{◌≡◌, true}
use Rattle.rules.specs.Lists.{below, every}
use Rattle.rules.specs.Triangle.{paid_of, sum_to}
use Rattle.cumulative_findings.specs.CumulativeFindings.{cell_passes}
use Rattle.cumulative_findings.proofs.first_outside.Given as goal

abbrev pub invariant-loop-j : goal.invariant-loop-j
invariant-loop-j l =
    (l.sum ≡ sum_to (paid_of l.k l.increments l.i) l.j) × (every (cell_passes l.k l.increments l.i) (below l.j) ≡ true)
