-- A digit more, and none left. Assumes nothing.
use mathlib.Core.Path.{refl}
use native.Mathlib.Omega.{arith}
use Rattle.scanning.proofs.Numbers.{size_more, size_end}
use Rattle.scanning.proofs.size_from.Goals as goal

pub loop-b-init : goal.loop-b-init
loop-b-init c = (omega arith, refl)

pub loop-b-preserved : goal.loop-b-preserved
loop-b-preserved c =
    let d = c.with_digit-size in
    let a = c.args in
    (d.ensures.1, size_more a.start a.digits.now c.loop-b.b-index c.loop-b.size d.result (omega arith) c.loop-b.invariant.1 d.ensures.0)

pub returns : goal.returns
returns c =
    let a = c.args in
    (size_end a.start a.digits.now c.loop-b.b-index c.loop-b.size (omega arith) c.loop-b.invariant.1, c.loop-b.invariant.0)
