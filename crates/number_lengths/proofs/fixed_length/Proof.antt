-- What stands before the decimals, and the decimals. Assumes nothing.
use mir.Facts.{to_z-of_z}
use mathlib.Core.Path.{sym}
use borrow.Author.Rules.{rules}
use Rattle.number_lengths.proofs.fixed_length.Statement.{statement}
use Rattle.number_lengths.proofs.fixed_length.Tie as tie

front-length-requires : tie.Need-front_length-requires
front-length-requires c κs = search rules

add-result : tie.Need-overflow_add-result
add-result c = search rules

returns : tie.Need-returns
returns c = sym (rw (to_z-of_z c.before.ranges.z) at c.front_length.ensures.0)

pub fixed_length_spec : {M : Type 1} → statement M
fixed_length_spec = tie.close (tie.spec front-length-requires add-result returns)
