-- The array holds the sizes of the entries so far. Assumes nothing.
use Rattle.std.proofs.Common.{◌≡◌, take, drop}
use mathlib.Core.List.{map}
use lib.IntN.{nat_abs}
use Rattle.rules.specs.Lists.{padded}
use Rattle.sheet_fields.proofs.sizes_of.Given as goal

abbrev pub invariant-loop-i : goal.invariant-loop-i
invariant-loop-i l = l.sizes ≡ padded 16 0 (map nat_abs (take l.i (drop l.at l.list)))
