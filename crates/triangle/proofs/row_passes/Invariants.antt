use mathlib.Core.Path.{◌≡◌}
use mathlib.Core.Bool.{true}
use Rattle.rules.specs.Lists.{below, every}
use Rattle.rules.specs.Triangle.{paid_of, sum_to}
use Rattle.triangle.proofs.Cumulatives.{passes}
use Rattle.triangle.proofs.row_passes.Given as goal

abbrev pub invariant-loop-x : goal.invariant-loop-x
invariant-loop-x l = record {
  summed : l.sum ≡ sum_to (paid_of l.k l.increments l.i) l.x-index;
  passed : every (passes l.k l.increments l.i) (below l.x-index) ≡ true;
}
