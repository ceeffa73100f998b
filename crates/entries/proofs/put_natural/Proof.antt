-- The stored number is the number: a natural below 2 ^ 63 keeps its value as a signed one. Assumes nothing.
use borrow.Author.Rules.{rules}
use mathlib.Core.Path.{refl}
use mir.Syntax.{w64}
use mir.ValLaws.{to_z_pos}
use Rattle.entries.proofs.put_natural.Statement.{statement}
use Rattle.entries.proofs.put_natural.Tie as tie

cast-out : tie.Need-overflow_cast-out
cast-out c = search rules

mul-t5 : tie.Need-offset_bounds-out-at
mul-t5 c = search rules

slice-set-from-out : tie.Need-bounds-out-at
slice-set-from-out c = search rules

add-result : tie.Need-overflow_add-result
add-result c = search rules

same_length : tie.Need-shape_of-out
same_length c = search rules

returns : tie.Need-returns
returns c = (refl, rw (to_z_pos w64 c.args.x c.requires.1))

pub put_natural_spec : {M : Type 1} → statement M
put_natural_spec =
    tie.close (tie.spec cast-out mul-t5 slice-set-from-out add-result same_length returns)
