use Prim.Native.Nat.{◌*◌}
use mathlib.Core.List.{map}
use lib.ListN.{take, replicate}
use Rattle.rules.specs.Packing.{pack}
use Rattle.rules.specs.Record.{increment, code_of}
use Rattle.packing.specs.Field.{PackedOn}
use Rattle.recording.proofs.put_increments.Given as goal

abbrev pub invariant-loop-x : goal.invariant-loop-x
invariant-loop-x l = PackedOn l.fn.buffer l.buffer l.fn.p l.q (35 * l.x-index) (pack (replicate l.x-index 35) (take l.x-index (map (code_of increment) l.ps)))
