-- The loop's invariant: at most one a cell is as printed. Assumes nothing.
use Rattle.std.proofs.Common.{◌≤◌}
use Rattle.motor_account.proofs.compare_row.Given as goal

abbrev pub invariant-loop-j : goal.invariant-loop-j
invariant-loop-j l = l.same ≤ l.j
