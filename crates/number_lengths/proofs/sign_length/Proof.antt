-- By the sign of the number. Assumes nothing.
use Rattle.entries.proofs.Signs.{below_zero, not_below}
use Rattle.composing.specs.Text.{sign}
use Rattle.number_lengths.proofs.sign_length.Statement.{statement}
use Rattle.number_lengths.proofs.sign_length.Tie as tie

returns : tie.Need-returns-then-z-lt0
unfolding sign
returns c = let (n, e, h) = below_zero c.before.args.z c.before.ranges.z c.if-z-lt0.true in rw e

returns-2 : tie.Need-returns-else-z-lt0
unfolding sign
returns-2 c = let (n, e, h) = not_below c.before.args.z c.before.ranges.z c.if-z-lt0.false in rw e

pub sign_length_spec : {M : Type 1} → statement M
sign_length_spec = tie.close (tie.spec returns returns-2)
