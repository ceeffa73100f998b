-- The digits of the bytes so far are put. Assumes nothing.
use Rattle.std.proofs.Common.{take}
use Rattle.composing.specs.Text.{Put}
use Rattle.hexadecimal.specs.Hexadecimal.{hex_of}
use Rattle.hexadecimal.proofs.put_hex.Given as goal

abbrev pub invariant-loop-b : goal.invariant-loop-b
invariant-loop-b l = Put l.fn.out l.out l.at l.end (hex_of (take l.b-index l.bytes))
