-- One store where the place is within the buffer, and none where it is past it. Assumes nothing.
use borrow.Author.Rules.{rules}
use native.Mathlib.Omega.{arith}
use Rattle.composing.proofs.Puts.{put_past}
use Rattle.composing.proofs.put_byte.Statement.{statement}
use Rattle.composing.proofs.put_byte.Tie as tie

slice-write-out : tie.Need-bounds-out-at
slice-write-out c = search rules

add-result : tie.Need-overflow_add-result
add-result c = search rules

same_length : tie.Need-shape_of-out
same_length c = search rules

returns : tie.Need-returns-then-at-out
returns c = search rules

returns-2 : tie.Need-returns-else-at-out
returns-2 c = put_past c.before.args.out.now c.before.args.at _ (omega arith)

pub put_byte_spec : {M : Type 1} → statement M
put_byte_spec = tie.close (tie.spec slice-write-out add-result same_length returns returns-2)
