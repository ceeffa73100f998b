-- How long a table in HTML is at most: head by head and cell by cell. Assumes nothing.
use mathlib.Core.Bool.{Bool, true, false, cond}
use mathlib.Core.List.{List, [], ◌++◌}
use Prim.Native.Nat.{ℕ, ◌+◌, ◌*◌, ◌≤◌}
use native.Mathlib.Nat.{mul-le-mul_right}
use native.Mathlib.Omega.{arith}
use lib.Dec.{eqb}
use lib.IntN.{ℤ}
use lib.ListN.{length, length-append}
use Rattle.rules.specs.Lists.{up_to, joined}
use Rattle.composing.specs.Text.{ascii}
use Rattle.composing.proofs.Decimals.{length_most}
use Rattle.parts.proofs.Lengths.{only_most}
use Rattle.plot_lengths.proofs.Drawn.{joined_most}
use Rattle.table_cells.specs.Cells.{web_cell_at}
use Rattle.table_cells.proofs.Lengths.{web_cell_most}
use Rattle.table_heads.specs.declared.Shape.{Shape}
use Rattle.table_heads.specs.Heads.{head, rows_in}
use Rattle.table_heads.proofs.Lengths.{head_most_lem, label_most_lem}
use Rattle.table_width.specs.Width.{measure}
use Rattle.web_rows.specs.Rows.{web_cells, web_row, web_foot}
use Rattle.web_table.specs.Web.{web_top, web_head, web_heads, web_body, web_table}
use Rattle.table_lengths.proofs.Most.{head_most, label_most, cell_most, row_most, table_most, line_head}

top_most : (key : Bool) (words : List ℕ) (width : ℕ) → length (web_top key words width) ≤ 102 + head_most words
unfolding web_top
top_most key words width =
    simp length-append (omega (arith, only_most key (ascii " class=\"k\""), length_most width, line_head 0 words))

one_head : (words : List ℕ) (shape : Shape) (j : ℕ) → length (web_head words shape j) ≤ 21 + head_most words
unfolding web_head
one_head words shape j = simp length-append (omega (arith, head_most_lem words shape j))

heads_most : (words : List ℕ) (shape : Shape) → length (web_heads words shape) ≤ 46 + head_most words + (21 + head_most words) * shape.columns
unfolding web_heads
heads_most words shape =
    simp length-append
    (omega (arith, line_head 1 words, joined_most (web_head words shape) (21 + head_most words) shape.columns (λ j l. one_head words shape j)))

cells_most : (values : List ℤ) (styles : List ℕ) (p n : ℕ) → length (web_cells values styles p n) ≤ 95 * n
unfolding web_cells
cells_most values styles p n = joined_most (λ j. web_cell_at values styles (p + j)) 95 n (λ j l. web_cell_most _ _)

module _ (words labels total : List ℕ) (shape : Shape) (values : List ℤ) (styles : List ℕ) where
  row_most_lem : (i : ℕ) → length (web_row labels total shape values styles i) ≤ 31 + label_most labels total + 95 * shape.columns
  unfolding web_row
  row_most_lem i =
      simp length-append (omega (arith, label_most_lem labels total shape i, cells_most values styles (i * shape.columns) shape.columns))

  rows_most : (n : ℕ) → length (joined (up_to (web_row labels total shape values styles) n)) ≤ row_most words labels total shape.columns * n
  rows_most n =
      let cells : 95 * shape.columns ≤ cell_most words * shape.columns = mul-le-mul_right shape.columns (omega arith) in
      joined_most (web_row labels total shape values styles) (row_most words labels total shape.columns) n (λ i l. omega (arith, row_most_lem i, cells))

  -- the body and the total
  rest_most : length (web_body labels total shape values styles) + length (web_foot labels total shape values styles)
      ≤ 34 + row_most words labels total shape.columns * rows_in total shape
  unfolding web_body web_foot rows_in up_to joined
  rest_most = go (eqb (length total) 0)
    where
      go : (none : Bool)
          → length (ascii "<tbody>\n" ++ (joined (up_to (web_row labels total shape values styles) shape.rows) ++ ascii "</tbody>\n"))
          + length (cond none [] (ascii "<tfoot>\n" ++ (web_row labels total shape values styles shape.rows ++ ascii "</tfoot>\n")))
          ≤ 34 + row_most words labels total shape.columns * (shape.rows + cond none 0 1)
      go true = simp length-append (omega (arith, rows_most shape.rows))
      go false =
          let cells : 95 * shape.columns ≤ cell_most words * shape.columns = mul-le-mul_right shape.columns (omega arith) in
          simp length-append (omega (arith, rows_most shape.rows, row_most_lem shape.rows, cells))

  pub web_most : (key : Bool) → length (web_table labels total shape values styles key words) ≤ table_most words labels total (rows_in total shape) shape.columns
  unfolding web_table table_most
  web_most key =
      let width = measure values styles shape.columns (rows_in total shape) in
      simp length-append (omega (arith, top_most key words width, heads_most words shape, rest_most))
