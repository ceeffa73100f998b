-- The numbers so far are put, each after a space. Assumes nothing.
use Rattle.std.proofs.Common.{take, drop}
use Rattle.composing.specs.Text.{Put}
use Rattle.sheet.specs.Sheet.{spaced}
use Rattle.sheet_writing.proofs.put_numbers.Given as goal

abbrev pub invariant-loop-z : goal.invariant-loop-z
invariant-loop-z l = Put l.fn.out l.out l.at l.end (spaced (take l.z-index (drop l.from l.list)))
