-- How long the kinds of tables are at most that the sections have, by their words and labels and the rows and columns of sixteen years. Assumes nothing.
use mathlib.Core.Bool.{Bool, false}
use mathlib.Core.List.{List, []}
use Prim.Native.Nat.{ℕ, ◌+◌, ◌*◌, ◌≤◌, ◌<◌}
use native.Mathlib.Omega.{arith}
use lib.IntN.{ℤ}
use lib.ListN.{length}
use Rattle.table_heads.specs.declared.Shape.{Shape}
use Rattle.table_heads.specs.Heads.{rows_in}
use Rattle.table_heads.proofs.Shapes.{rows_in_most}
use Rattle.table.specs.Table.{table}
use Rattle.table_lengths.proofs.Most.{table_most}
use Rattle.table_lengths.proofs.Tables.{table_most_lem}
use Rattle.placing.specs.Placing.{Grid, blank, totalled}
use Rattle.triangle_tables.specs.Tables.{triangle_shape, triangle_table, summed_table}
use Rattle.column_table.specs.ColumnTable.{year_rows, column_grid, column_table}
use Rattle.picked_table.specs.Picked.{picked, picked_table}

-- a row for each of at most sixteen years and one for a total, and at most d columns
pub years_most : (html : Bool) (words total : List ℕ) (shape : Shape) (values : List ℤ) (styles : List ℕ) (d n : ℕ) → shape.rows ≤ 16 → shape.columns ≤ d
    → table_most words [] total 17 d ≤ n → length (table html false words [] total shape values styles) ≤ n
years_most html words total shape values styles d n h l most =
    omega (arith, table_most_lem html false words [] total shape values styles 17 d (omega (arith, rows_in_most total shape)) l)

-- columns beside each other
pub column_most : (html : Bool) (words total : List ℕ) (from k c : ℕ) (starts decimals : List ℕ) (first end : ℕ) (xs : List ℤ) (n : ℕ) → k < 16
    → table_most words [] total 17 c ≤ n → length (column_table html words total (year_rows from (k + 1) c) starts decimals first end xs) ≤ n
unfolding column_table
column_most html words total from k c starts decimals first end xs n h most =
    let g = column_grid (year_rows from (k + 1) c) starts decimals first end xs in
    years_most html words total (year_rows from (k + 1) c) g.values g.styles c n (omega arith) (omega arith) most

-- a triangle, without sums and with them
pub triangle_most : (html : Bool) (words total : List ℕ) (first k c : ℕ) (g : Grid) (d n : ℕ) → k < 16 → c ≤ d → table_most words [] total 17 d ≤ n
    → length (triangle_table html words total first k c g) ≤ n
unfolding triangle_table triangle_shape
triangle_most html words total first k c g d n h l most =
    years_most html words total (triangle_shape first k c) g.values g.styles d n (omega arith) l most

pub summed_most : (html : Bool) (words total : List ℕ) (first k c j : ℕ) (g : Grid) (d n : ℕ) → k < 16 → c ≤ d → table_most words [] total 17 d ≤ n
    → length (summed_table html words total first k c j g) ≤ n
unfolding summed_table
summed_most html words total first k c j g d n h l most = triangle_most html words total first k c (totalled (k + 1) c j c g) d n h l most

-- single figures, in at most m rows
pub picked_most : (html key : Bool) (words labels : List ℕ) (shape : Shape) (figures : List ℤ) (places kinds : List ℕ) (m n : ℕ) → shape.rows ≤ m
    → table_most words labels [] m shape.columns ≤ n → length (picked_table html key words labels shape figures places kinds) ≤ n
unfolding picked_table rows_in
picked_most html key words labels shape figures places kinds m n h most =
    let g = picked figures places kinds (shape.rows * shape.columns) blank in
    omega (arith, table_most_lem html key words labels [] shape g.values g.styles m shape.columns (omega arith) (omega arith))
