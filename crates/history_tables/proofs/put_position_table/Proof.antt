-- The values and the styles of the positions, and the table over them. Assumes nothing.
use native.Mathlib.Omega.{arith}
use native.Mathlib.Nat.{mul-le-mul}
use Prim.Native.Nat.{◌+◌, ◌*◌, ◌≤◌}
use Rattle.history_tables.specs.Tables.{position_rows, history_table}
use borrow.Author.Rules.{rules}
use Rattle.history_tables.proofs.put_position_table.Statement.{statement}
use Rattle.history_tables.proofs.put_position_table.Tie as tie

put-table-requires : tie.Need-put_table-requires
put-table-requires c κs =
    let s = c.before.before.before.before.before.before.before.before.before.before.before in
    let rows = s.requires.0 in
    let places : (s.args.n + 1) * (s.args.width + 1) ≤ 17 * 17 = mul-le-mul {n₂ = 17} {m₂ = 17} (omega (arith, rows.rows_most)) (omega (arith, rows.width_most_lem)) in
    record {
      columns_most = omega (arith, rows.width_most_lem);
      places_most = omega arith;
      rows_most = omega (arith, rows.rows_most);
      from_most = omega (arith, rows.inside, s.requires.1.0);
    }

returns : tie.Need-returns
unfolding history_table position_rows
returns c = rw (c.before.before.before.before.before.before.before.before.before.before.before.grid_values-values.ensures, c.before.before.before.before.before.before.before.before.before.before.grid_styles-styles.ensures) at c.before.before.put_table.ensures

pub put_position_table_spec : {M : Type 1} → statement M
put_position_table_spec =
    tie.close
    (tie.spec
    (λ c κs. search rules)
    (λ c κs. search rules)
    (λ c. search rules)
    (λ c. search rules)
    put-table-requires
    (λ c. search rules)
    returns)
