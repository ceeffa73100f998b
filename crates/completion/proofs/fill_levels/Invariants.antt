use mathlib.Core.Path.{◌≡◌}
use lib.Seq.{sets}
use Rattle.rules.specs.Completion.{future_levels}
use Rattle.completion.proofs.fill_levels.Given as goal

abbrev pub invariant-loop-t : goal.invariant-loop-t
invariant-loop-t l = l.levels ≡ sets l.fn.levels 0 (future_levels l.t l.latest l.indices)
