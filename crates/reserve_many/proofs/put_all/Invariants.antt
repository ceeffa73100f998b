-- The loop's invariant: the pending bytes stand in the input. Assumes nothing.
use Rattle.std.proofs.Common.{◌≤◌}
use Rattle.reserve_many.proofs.put_all.Given as goal

abbrev pub invariant-loop-turn : goal.invariant-loop-turn
invariant-loop-turn l = (l.from ≤ l.have) × (l.have ≤ 131072)
