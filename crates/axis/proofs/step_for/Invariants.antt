-- The loop's invariant: the step is that of the decades that are left, from s on. Assumes nothing.
use Rattle.std.proofs.Common.{◌≡◌, ◌≤◌, ◌-◌}
use Rattle.axis.specs.Axis.{most_plotted, step_in}
use Rattle.axis.proofs.step_for.Given as goal

abbrev pub invariant-loop : goal.invariant-loop
invariant-loop l = (l.s ≤ most_plotted) × (step_in 17 l.one l.largest ≡ step_in (17 - l.counter) l.s l.largest)
