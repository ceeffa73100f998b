-- The loop's invariant: the first i exposures are stored. Assumes nothing.
use Rattle.std.proofs.Common.{◌≡◌, ◌+◌, get_or, pos, nat_abs}
use Rattle.rules.specs.Lists.{up_to, padded}
use Rattle.rules.specs.History.{most_history}
use Rattle.history_parts.proofs.exposures_of.Given as goal

abbrev pub invariant-loop-i : goal.invariant-loop-i
invariant-loop-i l = l.exposures ≡ padded most_history 0 (up_to (λ j. nat_abs (get_or l.list (2 + j) (pos 0))) l.i)
