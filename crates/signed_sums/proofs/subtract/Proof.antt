-- Both numbers are far below 2^63 (difference_fits). Assumes nothing.
use mathlib.Core.Path.{◌≡◌}
use mir.Facts.{to_z-of_z}
use Rattle.signed_sums.proofs.Sums.{difference_fits}
use Rattle.signed_sums.proofs.subtract.Statement.{statement}
use Rattle.signed_sums.proofs.subtract.Tie as tie

sub-result : tie.Need-overflow_sub-result
sub-result c = rw (to_z-of_z c.ranges.x, to_z-of_z c.ranges.y) (difference_fits c.args.x c.args.y c.requires.0 c.requires.1)

returns : tie.Need-returns
returns c = rw (to_z-of_z c.ranges.x, to_z-of_z c.ranges.y) (to_z-of_z (difference_fits c.args.x c.args.y c.requires.0 c.requires.1))

pub subtract_spec : {M : Type 1} → statement M
subtract_spec = tie.close (tie.spec sub-result returns)
