-- One number more (put_number). Assumes nothing.
use native.Mathlib.Omega.{arith}
use borrow.Author.Rules.{sfits_of}
use mathlib.Core.Path.{◌≡◌, ◌∙◌}
use mir.Facts.{to_z-of_z}
use mir.Syntax.{w64}
use Rattle.composing.proofs.Puts.{put_none}
use Rattle.sheet.specs.Sheet.{spaced}
use Rattle.sheet_writing.proofs.LinesPut.{put_number, part_length, part_at}
use Rattle.sheet_writing.proofs.put_numbers.Goals as goal

pub loop-z-init : goal.loop-z-init
unfolding spaced
loop-z-init c = put_none _ _

pub loop-z-preserved : goal.loop-z-preserved
loop-z-preserved c =
    let vs = c.args.list.now in
    let small = part_length vs c.args.from c.args.n c.requires in
    let kept = to_z-of_z {w = w64} (sfits_of c.put_integer-arg-in-loop-z-1.given) in
    put_number vs c.args.from c.loop-z.z-index (omega arith) c.loop-z.invariant c.put_byte-number.ensures (rw (kept ∙ part_at vs c.args.from c.args.n c.loop-z.z-index (omega arith)) at c.put_integer-end.ensures)

pub returns : goal.returns
returns c =
    let e : c.loop-z.z-index ≡ c.args.n = omega (arith, part_length c.args.list.now c.args.from c.args.n c.requires) in
    rw e at c.loop-z.invariant
