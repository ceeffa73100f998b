-- A bar up is no higher than the ticks up (height_most). Assumes nothing.
use native.Mathlib.Omega.{arith}
use mir.Facts.{to_z-of_z}
use mathlib.Core.Path.{◌≡◌, ap, ◌∙◌}
use mathlib.Core.Bool.{false}
use Prim.Native.Nat.{◌-◌}
use lib.IntN.{nat_abs}
use Rattle.composing.proofs.Puts.{put_append}
use Rattle.axis.specs.Axis.{side_of, zero_line, height_of}
use Rattle.axis.proofs.Axis.{side_most, height_most}
use Rattle.shapes.specs.Shapes.{shape}
use Rattle.drawing.specs.Drawing.{bar}
use borrow.Author.Rules.{rules}
use Rattle.drawing.proofs.put_bar.Statement.{statement}
use Rattle.drawing.proofs.put_bar.Tie as tie

height-of-requires : tie.Need-height_of-requires
height-of-requires c κs =
    let s = c.before.before.before in
    let side : c.side_of.result ≡ side_of false s.args.z = rw (to_z-of_z s.ranges.z) at c.side_of.ensures in
    (s.requires.0, omega (arith, side, side_most false s.args.z, s.requires.1.0))

sub-top : tie.Need-overflow_sub-top
unfolding zero_line
sub-top c =
    let s = c.before.before.before.before in
    let side : c.before.side_of.result ≡ side_of false s.args.z = rw (to_z-of_z s.ranges.z) at c.before.side_of.ensures in
    let height : c.height_of.result ≡ height_of s.args.s (side_of false s.args.z) = c.height_of.ensures ∙ ap (height_of s.args.s) side in
    omega (arith, c.before.before.zero_line.ensures, height, height_most s.args.s (side_of false s.args.z) s.requires.1.1)

height-of-requires-2 : tie.Need-height_of-height-requires
height-of-requires-2 c κs =
    let s = c.before.before.before.before.before in
    let size : c.size_of.result ≡ nat_abs s.args.z = rw (to_z-of_z s.ranges.z) at c.size_of.ensures in
    (s.requires.0, omega (arith, size, s.requires.1.0))

returns : tie.Need-returns
unfolding bar
returns c =
    let s = c.before.before.before.before.before.before.before.before.before.before.before.before.before.before in
    let kept = to_z-of_z s.ranges.z in
    let top = zero_line s.args.s - height_of s.args.s (side_of false s.args.z) in
    put_append
    {xs = shape s.args.mark s.args.x top s.args.w (height_of s.args.s (nat_abs s.args.z))}
    (rw (c.before.before.before.before.before.before.before.before.before.before.before.before.zero_line.ensures, c.before.before.before.before.before.before.before.before.before.before.height_of.ensures, c.before.before.before.before.before.before.before.before.before.before.before.side_of.ensures, c.before.before.before.before.before.before.before.before.height_of-height.ensures, c.before.before.before.before.before.before.before.before.before.size_of.ensures, kept) at c.before.before.before.before.before.before.put_shape-end.ensures)
    (rw kept at c.before.before.put_told.ensures)

pub put_bar_spec : {M : Type 1} → statement M
put_bar_spec =
    tie.close
    (tie.spec
    (λ c κs. search rules)
    (λ c κs. search rules)
    height-of-requires
    sub-top
    (λ c κs. search rules)
    height-of-requires-2
    (λ c κs. search rules)
    (λ c κs. search rules)
    (λ c. search rules)
    returns)
