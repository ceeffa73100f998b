-- A whole number where there are no decimals; the sign, the whole part, the point and the decimals otherwise (put_decimals). Assumes nothing.
use mir.Facts.{to_z-of_z}
use mathlib.Core.Path.{sym}
use Rattle.composing.proofs.Puts.{put_same}
use Rattle.composing.proofs.Decimals.{fixed_whole, put_decimals}
use borrow.Author.Rules.{rules}
use Rattle.fixed_text.proofs.put_fixed.Statement.{statement}
use Rattle.fixed_text.proofs.put_fixed.Tie as tie

put-integer-requires : tie.Need-put_integer-requires
put-integer-requires c κs = search rules

size-of-requires : tie.Need-size_of-n-requires
size-of-requires c κs = search rules

put-sign-requires : tie.Need-put_sign-whole-requires
put-sign-requires c κs = search rules

shortened-requires : tie.Need-shortened-requires
shortened-requires c κs = search rules

put-decimal-requires : tie.Need-put_decimal-point-requires
put-decimal-requires c κs = search rules

put-byte-requires : tie.Need-put_byte-decimals-requires
put-byte-requires c κs = search rules

put-last-requires : tie.Need-put_last-requires
put-last-requires c κs = search rules

same_length : tie.Need-shape_of-out-then-d-eq0
same_length c = search rules

returns : tie.Need-returns-then-d-eq0
returns c =
    let s = c.before.before.before.before.before.before in
    put_same (sym (fixed_whole s.args.d s.args.z c.before.before.before.before.if-d-eq0.true)) (rw (to_z-of_z s.ranges.z) at c.before.before.put_integer.ensures)

same-length-2 : tie.Need-shape_of-out-else-d-eq0
same-length-2 c = search rules

returns-2 : tie.Need-returns-else-d-eq0
returns-2 c =
    let s = c.before.before.before.before.before.before.before.before.before.before.before.before.before.before.before.before.before.before.before.before in
    let kept = to_z-of_z s.ranges.z in
    put_decimals s.args.d s.args.z c.before.before.before.before.before.before.before.before.before.before.before.before.before.before.before.before.before.before.if-d-eq0.false (rw kept at c.before.before.before.before.before.before.before.before.before.before.before.before.before.before.before.before.before.size_of-n.ensures) c.before.before.before.before.before.before.before.before.before.before.before.shortened.ensures
    (rw kept at c.before.before.before.before.before.before.before.before.before.before.before.before.before.before.before.put_sign-whole.ensures) c.before.before.before.before.before.before.before.before.before.before.put_decimal-point.ensures c.before.before.before.before.before.before.put_byte-decimals.ensures c.before.before.put_last.ensures

pub put_fixed_spec : {M : Type 1} → statement M
put_fixed_spec =
    tie.close
    (tie.spec
    put-integer-requires
    size-of-requires
    put-sign-requires
    shortened-requires
    put-decimal-requires
    put-byte-requires
    put-last-requires
    same_length
    returns
    same-length-2
    returns-2)
