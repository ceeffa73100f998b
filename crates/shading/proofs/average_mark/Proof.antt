-- Lost, or marked by its size. Assumes nothing.
use mathlib.Core.Path.{sym, ◌∙◌}
use native.Mathlib.Omega.{arith}
use mir.Facts.{to_z-of_z}
use Rattle.shading.specs.Shading.{average_mark}
use borrow.Author.Rules.{rules}
use Rattle.shading.proofs.average_mark.Statement.{statement}
use Rattle.shading.proofs.average_mark.Tie as tie

size-mark-requires : tie.Need-size_mark-requires
size-mark-requires c κs = let s = c.before.before in rw (to_z-of_z s.ranges.average) s.requires

returns : tie.Need-returns-then-is_lost
unfolding average_mark
returns c =
    let s = c.before.before in
    let test = rw (to_z-of_z s.ranges.payment, to_z-of_z s.ranges.average) at c.before.is_lost.ensures in
    (rw (sym test ∙ c.if-is_lost.true), omega arith)

returns-2 : tie.Need-returns-else-is_lost
unfolding average_mark
returns-2 c =
    let s = c.before.before.before in
    let test = rw (to_z-of_z s.ranges.payment, to_z-of_z s.ranges.average) at c.before.before.is_lost.ensures in
    (rw (sym test ∙ c.before.if-is_lost.false) (rw (to_z-of_z s.ranges.average) at c.size_mark.ensures.0), c.size_mark.ensures.1)

pub average_mark_spec : {M : Type 1} → statement M
average_mark_spec = tie.close (tie.spec (λ c κs. search rules) size-mark-requires returns returns-2)
