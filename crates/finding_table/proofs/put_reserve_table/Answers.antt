-- By the number (Tables). Assumes nothing.
use borrow.Author.Rules.{rules}
use Rattle.composing.proofs.Puts.{put_none, put_same}
use Rattle.table_cells.specs.Cells.{styled}
use Rattle.finding_table.specs.FindingTable.{tail_table, tail_average_table, ultimate_table, total_table, latest_table, divisor_table, corrected_table, completed_table}
use Rattle.finding_table.proofs.Tables.{at_18, at_19, at_11, at_12, at_15, at_16, at_17, at_14, no_reserve}
use Rattle.finding_table.proofs.put_reserve_table.Goals as goal

pub returns-in-18 : goal.returns-in-18
unfolding tail_table styled
returns-in-18 c = put_same (at_18 _ _ _ c.in-18.is) c.put_figures.ensures

pub returns-in-19 : goal.returns-in-19
unfolding tail_average_table styled
returns-in-19 c = put_same (at_19 _ _ _ c.in-19.is) c.put_figures-in-19.ensures

pub returns-in-11 : goal.returns-in-11
unfolding ultimate_table styled
returns-in-11 c = put_same (at_11 _ _ _ c.in-11.is) c.put_figures-in-11.ensures

pub returns-in-12 : goal.returns-in-12
unfolding total_table styled
returns-in-12 c = put_same (at_12 _ _ _ c.in-12.is) c.put_figures-in-12.ensures

pub returns-in-15 : goal.returns-in-15
unfolding latest_table styled
returns-in-15 c = put_same (at_15 _ _ _ c.in-15.is) c.put_figures-in-15.ensures

pub returns-in-16 : goal.returns-in-16
unfolding divisor_table styled
returns-in-16 c = put_same (at_16 _ _ _ c.in-16.is) c.put_figures-in-16.ensures

pub returns-in-17 : goal.returns-in-17
unfolding corrected_table styled
returns-in-17 c = put_same (at_17 _ _ _ c.in-17.is) c.put_figures-in-17.ensures

pub returns-in-14 : goal.returns-in-14
unfolding completed_table styled
returns-in-14 c = put_same (at_14 _ _ _ c.in-14.is) c.put_figures-in-14.ensures

pub returns-in_default : goal.returns-in_default
returns-in_default c = put_same (no_reserve _ _ _ (search rules) (search rules) (search rules) (search rules) (search rules) (search rules) (search rules) (search rules)) (put_none _ _)
