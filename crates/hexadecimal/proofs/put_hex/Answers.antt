-- One byte more (put_hex_more), and all of them. Assumes nothing.
use mathlib.Core.Path.{◌≡◌}
use native.Mathlib.Omega.{arith}
use lib.ListN.{length}
use lib.Seq.{take-length}
use Rattle.hexadecimal.proofs.Digits.{put_hex_first, put_hex_more}
use Rattle.hexadecimal.proofs.put_hex.Goals as goal

pub loop-b-init : goal.loop-b-init
loop-b-init c = put_hex_first _ _ c.args.bytes.now

pub loop-b-preserved : goal.loop-b-preserved
loop-b-preserved c = put_hex_more c.args.bytes.now c.loop-b.b-index (omega arith) c.loop-b.invariant c.put_two-end.ensures

pub returns : goal.returns
returns c =
    let bytes = c.args.bytes.now in
    let e : c.loop-b.b-index ≡ length bytes = omega arith in
    rw (e, take-length bytes) at c.loop-b.invariant
