-- The loop's invariant: the first a indices are put. Assumes nothing.
use Rattle.rules.specs.Lists.{up_to, joined}
use Rattle.composing.specs.Text.{Put}
use Rattle.hindsight_csv.specs.Csv.{index_line}
use Rattle.hindsight_csv.proofs.put_index_lines.Given as goal

abbrev pub invariant-loop-a : goal.invariant-loop-a
invariant-loop-a l = Put l.fn.out l.out l.at l.end (joined (up_to (index_line l.settings) l.a))
