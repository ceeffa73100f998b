use Prim.Native.Nat.{◌*◌}
use lib.ListN.{take, replicate}
use Rattle.rules.specs.Packing.{pack}
use Rattle.packing.specs.Field.{PackedOn}
use Rattle.packing.proofs.put_row.Given as goal

abbrev pub invariant-loop-v : goal.invariant-loop-v
invariant-loop-v l = PackedOn l.fn.buffer l.buffer l.fn.p l.q (l.w * l.v-index) (pack (replicate l.v-index l.w) (take l.v-index l.vs))
