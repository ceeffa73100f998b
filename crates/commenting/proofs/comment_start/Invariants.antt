-- No comment begins before place i, and p is the byte before it. Assumes nothing.
use Rattle.std.proofs.Common.{◌≡◌, ◌+◌, drop}
use Rattle.commenting.specs.Comments.{uncommented}
use Rattle.commenting.proofs.comment_start.Given as goal

abbrev pub invariant-loop-i : goal.invariant-loop-i
invariant-loop-i l = uncommented 0 l.line ≡ l.i + uncommented l.p (drop l.i l.line)
