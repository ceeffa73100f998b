-- The loop's invariant: the sizes of the figures so far are added up. Assumes nothing.
use Rattle.std.proofs.Common.{◌≡◌, ◌+◌, nat_abs}
use Rattle.rules.specs.Lists.{total, up_to}
use Rattle.vectors.specs.Vectors.{figure_at}
use Rattle.section_numbers.proofs.section_sizes.Given as goal

abbrev pub invariant-loop-x : goal.invariant-loop-x
invariant-loop-x l = l.sum ≡ total (up_to (λ i. nat_abs (figure_at l.figures (l.start + i))) l.x-index)
