-- The places of the title, the line and the record (split_here). Assumes nothing.
use Prim.Native.Nat.{◌+◌}
use native.Mathlib.Omega.{arith}
use Rattle.titled_input.proofs.Inputs.{split_here}
use Rattle.titled_input.proofs.parts_of.Goals as goal

pub returns : goal.returns
returns c =
    let end = c.byte_at-end.ensures in
    let size = c.byte_at-size.ensures in
    split_here c.args.input.now c.min.result c.min-2.result c.min-3.result c.min-4.result (5 + c.byte_at-end.result) c.byte_at-size.result (omega (arith, end.0)) (omega (arith, end.0, end.1)) (rw end.0 at size.0) size.1
    (omega (arith, c.min.ensures)) (omega (arith, c.min-2.ensures)) (omega (arith, c.min-3.ensures)) (omega (arith, c.min-4.ensures))
