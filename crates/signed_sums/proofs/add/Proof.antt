-- Both numbers are far below 2^63 (sum_fits). Assumes nothing.
use mathlib.Core.Path.{◌≡◌}
use mir.Facts.{to_z-of_z}
use Rattle.signed_sums.proofs.Sums.{sum_fits}
use Rattle.signed_sums.proofs.add.Statement.{statement}
use Rattle.signed_sums.proofs.add.Tie as tie

add-result : tie.Need-overflow_add-result
add-result c = rw (to_z-of_z c.ranges.x, to_z-of_z c.ranges.y) (sum_fits c.args.x c.args.y c.requires.0 c.requires.1)

returns : tie.Need-returns
returns c = rw (to_z-of_z c.ranges.x, to_z-of_z c.ranges.y) (to_z-of_z (sum_fits c.args.x c.args.y c.requires.0 c.requires.1))

pub add_spec : {M : Type 1} → statement M
add_spec = tie.close (tie.spec add-result returns)
