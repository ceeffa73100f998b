-- A row of a table of the report in HTML: of the body, and of the total after it. Assumes nothing.
use Rattle.std.specs.Prelude.{ℕ, ◌+◌, ◌*◌, cond, List, [], ◌++◌, eqb, ℤ, length}
use Rattle.rules.specs.Lists.{up_to, joined}
use Rattle.composing.specs.Text.{ascii}
use Rattle.table_cells.specs.Cells.{web_cell_at}
use Rattle.table_heads.specs.Heads.{label}
use Rattle.table_heads.specs.declared.Shape.{Shape}

-- n cells from place p on
unfoldable pub web_cells : List ℤ → List ℕ → ℕ → ℕ → List ℕ
web_cells values styles p n = joined (up_to (λ j. web_cell_at values styles (p + j)) n)

module _ (labels total : List ℕ) (shape : Shape) (values : List ℤ) (styles : List ℕ) where
  -- row i of the body, or the total after it
  unfoldable pub web_row : ℕ → List ℕ
  web_row i =
      ascii "<tr><th scope=\"row\">"
      ++ (label labels total shape i ++ (ascii "</th>" ++ (web_cells values styles (i * shape.columns) shape.columns ++ ascii "</tr>\n")))

  -- the total, where there is one
  unfoldable pub web_foot : List ℕ
  web_foot = cond (eqb (length total) 0) [] (ascii "<tfoot>\n" ++ (web_row shape.rows ++ ascii "</tfoot>\n"))
