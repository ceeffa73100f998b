-- The loop's invariant: line n is the one that is reached from place i on past the line feeds that are left. Assumes nothing.
use mathlib.Core.Path.{◌≡◌}
use lib.ListN.{drop}
use Rattle.lines.specs.Lines.{from_line}
use Rattle.lines.proofs.line_start.Given as goal

abbrev pub invariant-loop-i : goal.invariant-loop-i
invariant-loop-i l = from_line l.n l.text l.text ≡ from_line l.left l.text (drop l.i l.text)
