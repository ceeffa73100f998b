-- The bytes so far are put. Assumes nothing.
use Rattle.std.proofs.Common.{take}
use Rattle.composing.specs.Text.{Put}
use Rattle.titles.specs.Titles.{text_in}
use Rattle.titles.proofs.put_text.Given as goal

abbrev pub invariant-loop-b : goal.invariant-loop-b
invariant-loop-b l = Put l.fn.out l.out l.at l.end (text_in l.html (take l.b-index l.text))
