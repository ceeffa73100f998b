-- Any number but a year may have a percent sign after it (put_append). Assumes nothing.
use mir.Facts.{to_z-of_z}
use borrow.Author.Tests.{ne_eqb}
use Rattle.composing.proofs.Puts.{put_append}
use Rattle.table_cells.specs.Cells.{web_number}
use Rattle.table_cells.proofs.put_web_number.Goals as goal

pub returns-else-mark-eq2 : goal.returns-else-mark-eq2
unfolding web_number
returns-else-mark-eq2 c = rw (ne_eqb c.args.mark 2 c.if-mark-eq2.false) (put_append (rw (to_z-of_z c.ranges.z) at c.put_number-end.ensures) c.put_percent_sign.ensures)
