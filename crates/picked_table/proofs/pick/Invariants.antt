-- The loop's invariant: the first p cells are picked. Assumes nothing.
use Rattle.placing.specs.Placing.{grid, Holds}
use Rattle.picked_table.specs.Picked.{picked}
use Rattle.picked_table.proofs.pick.Given as goal

abbrev pub invariant-loop-p : goal.invariant-loop-p
invariant-loop-p l = Holds (picked l.figures l.places l.kinds l.p (grid l.fn.values l.fn.styles)) l.values l.styles
