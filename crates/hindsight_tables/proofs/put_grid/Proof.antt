-- The values and the styles of the cells, and the table over them. Assumes nothing.
use native.Mathlib.Omega.{arith}
use native.Mathlib.Nat.{mul-le-mul}
use Prim.Native.Nat.{◌+◌, ◌*◌, ◌≤◌}
use Rattle.hindsight_cells.specs.Cells.{rows_of, columns_of}
use Rattle.hindsight_cells.proofs.Sizes.{rows_most, columns_most}
use Rattle.hindsight_tables.specs.Tables.{grid_shape, grid_table}
use borrow.Author.Rules.{rules}
use Rattle.hindsight_tables.proofs.put_grid.Statement.{statement}
use Rattle.hindsight_tables.proofs.put_grid.Tie as tie

put-table-requires : tie.Need-put_table-requires
put-table-requires c κs =
    let s = c.before.before.before.before.before.before.before.before.before.before.before.before.before in
    let t = s.args.t in
    let k = s.args.k in
    let n = s.args.n in
    let rows = rows_most t k n s.requires.0.known s.requires.0.few in
    let columns = columns_most t k n s.requires.0.known s.requires.0.few in
    let places : (rows_of t k n + 1) * columns_of t k n ≤ 15 * 15 = mul-le-mul {n₂ = 15} {m₂ = 15} (omega (arith, rows)) columns in
    rw (c.before.before.before.before.before.before.before.before.rows_of.ensures, c.before.before.before.before.before.before.before.columns_of.ensures)
    (record {
      columns_most = omega (arith, columns);
      places_most = omega (arith, places);
      rows_most = omega (arith, rows);
      from_most = s.requires.1;
    })

returns : tie.Need-returns
unfolding grid_table grid_shape
returns c = rw (c.before.before.before.before.before.before.before.before.before.before.before.before.before.grid_values-values.ensures, c.before.before.before.before.before.before.before.before.before.before.before.before.grid_styles-styles.ensures, c.before.before.before.before.before.before.before.before.before.before.before.rows_of.ensures, c.before.before.before.before.before.before.before.before.before.before.columns_of.ensures) at c.before.before.put_table.ensures

pub put_grid_spec : {M : Type 1} → statement M
put_grid_spec =
    tie.close
    (tie.spec
    (λ c κs. search rules)
    (λ c κs. search rules)
    (λ c κs. search rules)
    (λ c κs. search rules)
    put-table-requires
    (λ c. search rules)
    returns)
