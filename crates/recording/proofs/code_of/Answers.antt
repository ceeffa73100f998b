-- By the sign of the number. Assumes nothing.
use native.Mathlib.Omega.{arith}
use mir.Facts.{to_z-of_z}
use Rattle.recording.proofs.WrittenSigns.{size_most, code_below, code_above}
use Rattle.recording.proofs.code_of.Goals as goal

pub returns-then-p-lt0 : goal.returns-then-p-lt0
returns-then-p-lt0 c =
    let e = code_below c.args.p (rw (to_z-of_z c.ranges.p) at c.if-p-lt0.true) in
    let m = size_most c.args.p c.requires in
    let v = rw (to_z-of_z c.ranges.p) at c.unsigned_abs-size.ensures.value in
    (omega (arith, e, v), omega (arith, m, v))

pub returns-else-p-lt0 : goal.returns-else-p-lt0
returns-else-p-lt0 c =
    let e = code_above c.args.p (rw (to_z-of_z c.ranges.p) at c.if-p-lt0.false) in
    let m = size_most c.args.p c.requires in
    let v = rw (to_z-of_z c.ranges.p) at c.unsigned_abs-size.ensures.value in
    (omega (arith, e, v), omega (arith, m, v))
