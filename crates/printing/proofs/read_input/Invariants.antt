-- The loop's invariant: what is read stands within the buffer, whose length stays. Assumes nothing.
use Rattle.std.proofs.Common.{◌-◌, ◌≤◌, length, ◌≡◌}
use Rattle.printing.proofs.read_input.Given as goal

abbrev pub invariant-loop-done : goal.invariant-loop-done
invariant-loop-done l = (l.done ≤ l.length) × (l.length ≡ length l.buf)

abbrev pub decreases-loop-done : goal.decreases-loop-done
decreases-loop-done l = l.length - l.done
