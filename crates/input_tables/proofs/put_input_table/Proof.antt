-- The column is a section of the figures (columned). Assumes nothing.
use Prim.Native.Nat.{◌+◌}
use native.Mathlib.Omega.{arith}
use Rattle.rules.specs.Lists.{padded}
use Rattle.column_table.proofs.Places.{columned}
use Rattle.input_tables.specs.Inputs.{input_table}
use borrow.Author.Rules.{rules}
use Rattle.input_tables.proofs.put_input_table.Statement.{statement}
use Rattle.input_tables.proofs.put_input_table.Tie as tie

put-column-table-requires : tie.Need-put_column_table-requires
put-column-table-requires c κs =
    let s = c.before.before.before.before.before.before in
    let k = s.args.k in
    columned k s.args.from (k + 1) 1 _ _ s.args.figures.now s.requires.0 s.requires.1.0 (omega arith) (omega arith) (omega arith) s.requires.1.1.1.1 (omega arith) (omega arith)

returns : tie.Need-returns
unfolding input_table padded
returns c = c.before.before.put_column_table.ensures

pub put_input_table_spec : {M : Type 1} → statement M
put_input_table_spec =
    tie.close
    (tie.spec
    (λ c. search rules)
    put-column-table-requires
    (λ c. search rules)
    returns)
