-- By the sign of the value and the side. Assumes nothing.
use mir.Facts.{to_z-of_z}
use Rattle.entries.proofs.Signs.{below_zero, not_below}
use Rattle.axis.specs.Axis.{side_of}
use borrow.Author.Rules.{rules}
use Rattle.axis.proofs.side_of.Statement.{statement}
use Rattle.axis.proofs.side_of.Tie as tie

returns : tie.Need-returns-then-low
unfolding side_of
returns c =
    let s = c.before.before.before in
    let (n, e, h) = below_zero s.args.z s.ranges.z c.before.before.if-z-lt0.true in
    let size = rw (to_z-of_z s.ranges.z) at c.size_of.ensures in
    rw (c.before.if-low.true, e) (rw e at size)

returns-2 : tie.Need-returns-else-low
unfolding side_of
returns-2 c =
    let s = c.before.before in
    let (n, e, h) = below_zero s.args.z s.ranges.z c.before.if-z-lt0.true in
    rw (c.if-low.false, e)

returns-3 : tie.Need-returns-then-low-2
unfolding side_of
returns-3 c =
    let s = c.before.before in
    let (n, e, h) = not_below s.args.z s.ranges.z c.before.if-z-lt0.false in
    rw (c.if-low-2.true, e)

returns-4 : tie.Need-returns-else-low-2
unfolding side_of
returns-4 c =
    let s = c.before.before.before in
    let (n, e, h) = not_below s.args.z s.ranges.z c.before.before.if-z-lt0.false in
    let size = rw (to_z-of_z s.ranges.z) at c.size_of-else-low-2.ensures in
    rw (c.before.if-low-2.false, e) (rw e at size)

pub side_of_spec : {M : Type 1} → statement M
side_of_spec =
    tie.close
    (tie.spec
    (λ c κs. search rules)
    (λ c κs. search rules)
    returns
    returns-2
    returns-3
    returns-4)
