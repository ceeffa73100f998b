-- The loop's invariant: the largest size of the figures so far. Assumes nothing.
use Rattle.std.proofs.Common.{◌≡◌, ◌+◌, nat_abs}
use Rattle.table_cells.specs.Cells.{largest}
use Rattle.vectors.specs.Vectors.{figure_at}
use Rattle.shading.proofs.largest_size.Given as goal

abbrev pub invariant-loop-x : goal.invariant-loop-x
invariant-loop-x l = l.most ≡ largest (λ m. nat_abs (figure_at l.figures (l.start + m))) l.x-index
