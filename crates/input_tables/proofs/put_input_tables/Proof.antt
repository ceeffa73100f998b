-- One table after another (put_four). Assumes nothing.
use native.Mathlib.Omega.{arith}
use Rattle.composing.proofs.Puts.{put_four}
use Rattle.column_table.proofs.Places.{standing}
use Rattle.input_tables.specs.Inputs.{exposure_table, reporting_table, ulae_table, index_table, input_tables}
use borrow.Author.Rules.{rules}
use Rattle.input_tables.proofs.put_input_tables.Statement.{statement}
use Rattle.input_tables.proofs.put_input_tables.Tie as tie

put-input-table-requires : tie.Need-put_input_table-reporting-requires
put-input-table-requires c κs =
    let s = c.before.before.before.before.before.before.before in
    let here = standing s.args.k s.requires.0 in
    rw c.before.before.before.before.before.added_at-a.ensures (s.requires.0, (omega arith, (omega arith, (omega arith, s.requires.1.1))))

put-input-table-requires-2 : tie.Need-put_input_table-ulae-requires
put-input-table-requires-2 c κs =
    let s = c.before.before.before.before.before.before.before.before.before.before.before.before.before.before.before in
    let here = standing s.args.k s.requires.0 in
    rw c.before.before.before.before.before.before.before.before.before.before.before.before.before.added_at-a.ensures (s.requires.0, (omega arith, (omega arith, (omega arith, s.requires.1.1))))

put-input-table-requires-3 : tie.Need-put_input_table-indices-requires
put-input-table-requires-3 c κs =
    let s = c.before.before.before.before.before.before.before.before.before.before.before.before.before.before.before.before.before.before.before.before.before.before.before in
    let here = standing s.args.k s.requires.0 in
    rw c.before.before.before.before.before.before.before.before.before.before.before.before.before.before.before.before.before.before.before.before.before.added_at-a.ensures (s.requires.0, (omega arith, (omega arith, (omega arith, s.requires.1.1))))

put-input-table-requires-4 : tie.Need-put_input_table-requires
put-input-table-requires-4 c κs =
    let s = c.before.before.before.before.before.before.before.before.before.before.before.before.before.before.before.before.before.before.before.before.before.before.before.before.before.before.before.before.before.before.before in
    let here = standing s.args.k s.requires.0 in
    rw c.before.before.before.before.before.before.before.before.before.before.before.before.before.before.before.before.before.before.before.before.before.before.before.before.before.before.before.before.before.added_at-a.ensures (s.requires.0, (omega arith, (omega arith, (omega arith, s.requires.1.1))))

returns : tie.Need-returns
unfolding input_tables exposure_table reporting_table ulae_table index_table
returns c =
    rw c.before.before.before.before.before.before.before.before.before.before.before.before.before.before.before.before.before.before.before.before.before.before.before.before.before.before.before.before.before.before.before.before.added_at-a.ensures at
    (put_four c.before.before.before.before.before.before.before.before.before.before.before.before.before.before.before.before.before.before.before.before.before.before.before.before.before.before.put_input_table-reporting.ensures c.before.before.before.before.before.before.before.before.before.before.before.before.before.before.before.before.before.before.put_input_table-ulae.ensures c.before.before.before.before.before.before.before.before.before.before.put_input_table-indices.ensures c.before.before.put_input_table.ensures)

pub put_input_tables_spec : {M : Type 1} → statement M
put_input_tables_spec =
    tie.close
    (tie.spec
    (λ c κs. search rules)
    put-input-table-requires
    put-input-table-requires-2
    put-input-table-requires-3
    (λ c. search rules)
    (λ c. search rules)
    put-input-table-requires-4
    (λ c. search rules)
    returns)
