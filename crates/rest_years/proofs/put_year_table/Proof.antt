-- The labels and the values are those of the years (table_is). Assumes nothing.
use native.Mathlib.Omega.{arith}
use borrow.Author.Rules.{rules}
use Rattle.composing.proofs.Puts.{put_same}
use Rattle.table_cells.specs.Cells.{styled}
use Rattle.rest_years.proofs.Years.{years_most}
use Rattle.rest_years.proofs.Tables.{table_fits, table_is}
use Rattle.rest_years.proofs.put_year_table.Statement.{statement}
use Rattle.rest_years.proofs.put_year_table.Tie as tie

put-table-requires : tie.Need-put_table-requires
put-table-requires c κs =
    let s = c.before.before.before.before.before.before.before.before.before.before.before.before.before.before in
    table_fits _ (omega (arith, s.requires.0, c.before.before.before.before.before.before.before.before.fill_values-rows.ensures.0, years_most s.args.corners.now s.args.columns.now s.args.k))

returns : tie.Need-returns
unfolding styled
returns c =
    let s = c.before.before.before.before.before.before.before.before.before.before.before.before.before.before.before.before.before in
    let filled = c.before.before.before.before.before.before.before.before.before.before.before.fill_values-rows.ensures in
    put_same (table_is s.args.html s.args.corners.now s.args.columns.now s.args.k s.requires.0 _ _ _ c.before.before.before.before.before.before.before.before.before.before.before.before.before.before.put_labels.ensures.stored filled.1 filled.0)
    c.before.before.put_table.ensures

pub put_year_table_spec : {M : Type 1} → statement M
put_year_table_spec =
    tie.close
    (tie.spec
    (λ c. search rules)
    (λ c κs. search rules)
    (λ c κs. search rules)
    (λ c. search rules)
    put-table-requires
    (λ c. search rules)
    returns)
