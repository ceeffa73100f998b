-- By the number (Tables). Assumes nothing.
use borrow.Author.Rules.{rules}
use Rattle.composing.proofs.Puts.{put_none, put_same}
use Rattle.table_cells.specs.Cells.{styled}
use Rattle.finding_table.specs.FindingTable.{given_table, length_table, shares_table}
use Rattle.finding_table.proofs.Tables.{at_1, at_2, at_4, at_5, no_record}
use Rattle.finding_table.proofs.put_record_table.Goals as goal

pub returns-in-1 : goal.returns-in-1
unfolding given_table styled
returns-in-1 c = put_same (at_1 _ _ _ c.in-1.is) c.put_figures.ensures

pub returns-in-2 : goal.returns-in-2
unfolding length_table styled
returns-in-2 c = put_same (at_2 _ _ _ c.in-2.is) c.put_figures-in-2.ensures

pub returns-in-4 : goal.returns-in-4
returns-in-4 c = put_same (at_4 _ _ _ c.in-4.is) c.put_field_table.ensures

pub returns-in-5 : goal.returns-in-5
unfolding shares_table styled
returns-in-5 c = put_same (at_5 _ _ _ c.in-5.is) c.put_figures-in-5.ensures

pub returns-in_default : goal.returns-in_default
returns-in_default c = put_same (no_record _ _ _ (search rules) (search rules) (search rules) (search rules)) (put_none _ _)
