-- The loop's invariant: the totals are those of the rows before i and of the first j cells of row i. Assumes nothing.
use Prim.Native.Nat.{◌-◌, ◌≤◌}
use Rattle.rules.specs.Triangle.{TotalsSoFar}
use Rattle.totals.specs.Squares.{cut_of}
use Rattle.totals.proofs.add_row.Given as goal

abbrev pub invariant-loop-j : goal.invariant-loop-j
invariant-loop-j l = (l.j ≤ l.count) × TotalsSoFar (cut_of l.rows l.first l.k) l.i l.j l.columns l.diagonals

abbrev pub decreases-loop-j : goal.decreases-loop-j
decreases-loop-j l = l.count - l.j
