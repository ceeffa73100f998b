-- By the number (Tables). Assumes nothing.
use borrow.Author.Rules.{rules}
use Rattle.composing.proofs.Puts.{put_none, put_same}
use Rattle.table_cells.specs.Cells.{styled}
use Rattle.finding_table.specs.FindingTable.{cumulative_table, totals_table, rest_table, running_table, level_table}
use Rattle.finding_table.proofs.Tables.{at_6, at_13, at_7, at_8, at_9, at_10, no_triangle}
use Rattle.finding_table.proofs.put_triangle_table.Goals as goal

pub returns-in-6 : goal.returns-in-6
unfolding cumulative_table styled
returns-in-6 c = put_same (at_6 _ _ _ c.in-6.is) c.put_figures.ensures

pub returns-in-13 : goal.returns-in-13
returns-in-13 c = put_same (at_13 _ _ _ c.in-13.is) c.put_development_table.ensures

pub returns-in-7 : goal.returns-in-7
unfolding totals_table styled
returns-in-7 c = put_same (at_7 _ _ _ c.in-7.is) c.put_figures-in-7.ensures

pub returns-in-8 : goal.returns-in-8
unfolding rest_table styled
returns-in-8 c = put_same (at_8 _ _ _ c.in-8.is) c.put_figures-in-8.ensures

pub returns-in-9 : goal.returns-in-9
unfolding running_table styled
returns-in-9 c = put_same (at_9 _ _ _ c.in-9.is) c.put_figures-in-9.ensures

pub returns-in-10 : goal.returns-in-10
unfolding level_table styled
returns-in-10 c = put_same (at_10 _ _ _ c.in-10.is) c.put_figures-in-10.ensures

pub returns-in_default : goal.returns-in_default
returns-in_default c = put_same (no_triangle _ _ _ (search rules) (search rules) (search rules) (search rules) (search rules) (search rules)) (put_none _ _)
