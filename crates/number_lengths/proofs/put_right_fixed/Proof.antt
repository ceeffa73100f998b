-- The spaces that are left, and the number (put_at_right). Assumes nothing.
use mir.Facts.{to_z-of_z}
use native.Mathlib.Omega.{arith}
use mathlib.Core.Path.{◌≡◌}
use Prim.Native.Nat.{◌-◌, ◌+◌}
use lib.ListN.{length}
use Rattle.composing.specs.Text.{fixed}
use Rattle.composing.proofs.Decimals.{put_at_right}
use borrow.Author.Rules.{rules}
use Rattle.number_lengths.proofs.put_right_fixed.Statement.{statement}
use Rattle.number_lengths.proofs.put_right_fixed.Tie as tie

left-of-requires : tie.Need-left_of-requires
left-of-requires c κs = search rules

front-length-requires : tie.Need-front_length-requires
front-length-requires c κs = search rules

left-of-requires-2 : tie.Need-left_of-left-requires
left-of-requires-2 c κs = search rules

put-spaces-requires : tie.Need-put_spaces-start-requires
put-spaces-requires c κs = search rules

put-fixed-requires : tie.Need-put_fixed-requires
put-fixed-requires c κs = search rules

same_length : tie.Need-shape_of-out
same_length c = search rules

returns : tie.Need-returns
returns c =
    let s = c.before.before.before.before.before.before.before.before.before.before.before.before in
    let text = fixed s.args.d s.args.z in
    let kept = to_z-of_z s.ranges.z in
    let long : length text ≡ c.before.before.before.before.before.before.before.before.before.front_length.result + s.args.d = rw kept at c.before.before.before.before.before.before.before.before.before.front_length.ensures.0 in
    let first : c.before.before.before.before.before.before.before.before.before.before.left_of.result ≡ s.args.w - s.args.d = c.before.before.before.before.before.before.before.before.before.before.left_of.ensures in
    let second : c.before.before.before.before.before.before.before.before.left_of-left.result ≡ c.before.before.before.before.before.before.before.before.before.before.left_of.result - c.before.before.before.before.before.before.before.before.before.front_length.result = c.before.before.before.before.before.before.before.before.left_of-left.ensures in
    let e : c.before.before.before.before.before.before.before.before.left_of-left.result ≡ s.args.w - length text = omega arith in
    put_at_right s.args.w text e c.before.before.before.before.before.before.put_spaces-start.ensures (rw kept at c.before.before.put_fixed.ensures)

pub put_right_fixed_spec : {M : Type 1} → statement M
put_right_fixed_spec =
    tie.close
    (tie.spec
    left-of-requires
    front-length-requires
    left-of-requires-2
    put-spaces-requires
    put-fixed-requires
    same_length
    returns)
