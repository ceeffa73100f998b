-- The loop's invariant: at most one a factor is as printed. Assumes nothing.
use Rattle.std.proofs.Common.{◌≤◌}
use Rattle.motor_account.proofs.compare_factors.Given as goal

abbrev pub invariant-loop-h : goal.invariant-loop-h
invariant-loop-h l = l.same ≤ l.h
