use mathlib.Core.Path.{◌≡◌}
use mathlib.Core.Bool.{true}
use lib.Seq.{sets}
use Rattle.rules.specs.Lists.{every, between}
use Rattle.packing.specs.Field.{row_at}
use Rattle.reading.proofs.fill_row.Given as goal

abbrev pub invariant-loop-i : goal.invariant-loop-i
invariant-loop-i l = record {
  stored : l.row ≡ sets l.fn.row 0 (row_at l.s l.at l.w l.i);
  within : every (between l.least l.most) (row_at l.s l.at l.w l.i) ≡ true;
}
