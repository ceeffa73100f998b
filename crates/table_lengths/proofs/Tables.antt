-- How long a table is at most, whatever its values and styles. Assumes nothing.
use mathlib.Core.Bool.{Bool}
use mathlib.Core.List.{List}
use Prim.Native.Nat.{ℕ, ◌+◌, ◌≤◌}
use native.Mathlib.Nat.{mul-le-mul, mul-le-mul_left}
use native.Mathlib.Omega.{arith}
use lib.IntN.{ℤ}
use lib.ListN.{length}
use Rattle.parts.proofs.Lengths.{either_most}
use Rattle.table_heads.specs.declared.Shape.{Shape}
use Rattle.table_heads.specs.Heads.{rows_in}
use Rattle.web_table.specs.Web.{web_table}
use Rattle.text_table.specs.Plain.{text_table}
use Rattle.table.specs.Table.{table}
use Rattle.table_lengths.proofs.Most.{head_most, cell_most, row_most, table_most}
use Rattle.table_lengths.proofs.Web.{web_most}
use Rattle.table_lengths.proofs.Plain.{text_most}

-- more rows and columns make the bound no smaller
more_most : (words labels total : List ℕ) (m n c d : ℕ) → m ≤ n → c ≤ d → table_most words labels total m c ≤ table_most words labels total n d
unfolding table_most
more_most words labels total m n c d h l =
    let row : row_most words labels total c ≤ row_most words labels total d = omega (arith, mul-le-mul_left {m = c} {n = d} (cell_most words) l) in
    omega (arith, mul-le-mul_left {m = c} {n = d} (21 + head_most words) l, mul-le-mul {n₂ = row_most words labels total d} {m₂ = n} row h)

-- a table of at most n rows, the total among them, and at most c columns
pub table_most_lem : (html key : Bool) (words labels total : List ℕ) (shape : Shape) (values : List ℤ) (styles : List ℕ) (n c : ℕ) → rows_in total shape ≤ n → shape.columns ≤ c
    → length (table html key words labels total shape values styles) ≤ table_most words labels total n c
unfolding table
table_most_lem html key words labels total shape values styles n c h l =
    let most = more_most words labels total (rows_in total shape) n shape.columns c h l in
    either_most html (web_table labels total shape values styles key words) (text_table words labels total shape values styles) (table_most words labels total n c)
    (omega (arith, most, web_most words labels total shape values styles key))
    (omega (arith, most, text_most words labels total shape values styles))
