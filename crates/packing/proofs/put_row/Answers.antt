-- Before each turn the fields behind are packed. Assumes nothing.
use mathlib.Core.Path.{◌≡◌}
use Prim.Native.Nat.{◌+◌, ◌*◌}
use native.Mathlib.Nat.{mul-zero}
use native.Mathlib.Omega.{arith}
use lib.ListN.{length}
use Rattle.rules.specs.Packing.{pack}
use Rattle.packing.proofs.Pack.{pack_next, room}
use Rattle.packing.proofs.Puts.{packed_none, packed_then, ready_then}
use Rattle.packing.proofs.put_row.Goals as goal

pub loop-v-init : goal.loop-v-init
unfolding pack
loop-v-init c = rw mul-zero (packed_none c.requires.0)

pub put-q-requires : goal.put-q-requires
put-q-requires c =
    let i = c.loop-v.v-index in
    let w = c.args.w in (
      ready_then w c.requires.0 c.loop-v.invariant (omega arith) (room w i (length c.args.vs.now) (omega arith)),
      (c.requires.1.0, c.requires.1.1 i),
    )

pub loop-v-preserved : goal.loop-v-preserved
loop-v-preserved c =
    let i = c.loop-v.v-index in
    let w = c.args.w in
    let e : w * (i + 1) ≡ w * i + w = omega arith in
    rw (e, pack_next w c.args.vs.now i (omega arith)) (packed_then c.loop-v.invariant c.put-q.ensures)
