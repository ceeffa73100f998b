-- The loop's invariant: the provisions of the years before i are filled in. Assumes nothing.
use Rattle.std.proofs.Common.{◌≡◌, ◌+◌, get_or, pos, nat_abs}
use Rattle.rules.specs.Lists.{up_to, padded}
use Rattle.outcomes.proofs.provisions_of.Given as goal

abbrev pub invariant-loop-i : goal.invariant-loop-i
invariant-loop-i l = l.all ≡ padded 16 0 (up_to (λ j. nat_abs (get_or l.list (l.p + j) (pos 0))) l.i)
