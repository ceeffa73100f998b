-- By the test, as a number. Assumes nothing.
use Rattle.std.proofs.Common.{◌≡◌, Bool, true, false, cond, refl, ◌*◌, ◌≤◌, arith}
use mir.Val.{bool_byte}
use lib.Dec.{ltb}
use Rattle.shading.specs.Shading.{exceeds}
use Rattle.shading.proofs.exceeds.Goals as goal

as_number : (b : Bool) → (bool_byte b ≡ cond b 1 0) × (bool_byte b ≤ 1)
as_number true = (refl, omega arith)
as_number false = (refl, omega arith)

pub returns : goal.returns
unfolding exceeds
returns c = rw c.from.ensures (as_number (ltb (c.args.t * c.args.fitted) (100 * c.args.size)))
