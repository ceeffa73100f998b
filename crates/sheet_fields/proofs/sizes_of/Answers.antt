-- One size more (sizes_more). Assumes nothing.
use mathlib.Core.Path.{refl, ap, ◌∙◌}
use native.Mathlib.Omega.{arith}
use borrow.Author.Rules.{sfits_of}
use lib.IntN.{nat_abs}
use mir.Facts.{to_z-of_z}
use mir.Syntax.{w64}
use Rattle.rules.specs.Lists.{padded}
use Rattle.sheet_fields.proofs.FieldSections.{sizes_more, part_length, part_at}
use Rattle.sheet_fields.proofs.sizes_of.Goals as goal

pub loop-i-init : goal.loop-i-init
unfolding padded
loop-i-init c = refl

pub loop-i-preserved : goal.loop-i-preserved
loop-i-preserved c =
    let vs = c.args.list.now in
    let i = c.loop-i.i in
    let small = part_length vs c.args.at c.args.n c.requires.1 in
    let kept = to_z-of_z {w = w64} (sfits_of c.size_of-arg-1.given) in
    rw c.loop-i.invariant (sizes_more vs c.args.at i c.size_of.result (omega arith) (omega arith) (c.size_of.ensures ∙ ap nat_abs (kept ∙ part_at vs c.args.at c.args.n i (omega arith))))
