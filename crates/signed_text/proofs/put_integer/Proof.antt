-- The sign and then the size (put_signed). Assumes nothing.
use mir.Facts.{to_z-of_z}
use Rattle.composing.proofs.Decimals.{put_signed}
use borrow.Author.Rules.{rules}
use Rattle.signed_text.proofs.put_integer.Statement.{statement}
use Rattle.signed_text.proofs.put_integer.Tie as tie

put-sign-requires : tie.Need-put_sign-end-requires
put-sign-requires c κs = search rules

size-of-requires : tie.Need-size_of-requires
size-of-requires c κs = search rules

put-decimal-requires : tie.Need-put_decimal-requires
put-decimal-requires c κs = search rules

same_length : tie.Need-shape_of-out
same_length c = search rules

returns : tie.Need-returns
returns c =
    let kept = to_z-of_z c.before.before.before.before.before.before.before.before.before.before.ranges.z in
    put_signed c.before.before.before.before.before.before.before.before.before.before.args.z (rw kept at c.before.before.before.size_of.ensures) (rw kept at c.before.before.before.before.before.before.before.put_sign-end.ensures) c.before.before.put_decimal.ensures

pub put_integer_spec : {M : Type 1} → statement M
put_integer_spec =
    tie.close
    (tie.spec put-sign-requires size-of-requires put-decimal-requires same_length returns)
