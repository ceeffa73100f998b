-- The size so far goes on to the size of the word with the digits that are left. Assumes nothing.
use Rattle.std.proofs.Common.{◌≡◌, ◌<◌, ◌^◌}
use Rattle.std.specs.Prelude.{drop}
use Rattle.scanning.specs.Numbers.{size_from}
use Rattle.scanning.proofs.size_from.Given as goal

abbrev pub invariant-loop-b : goal.invariant-loop-b
invariant-loop-b l = (l.size < 2 ^ 60) × (size_from l.fn.start l.fn.digits ≡ size_from l.size (drop l.b-index l.digits))
