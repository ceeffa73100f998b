-- A table of the report in HTML. Assumes nothing.
use Rattle.std.specs.Prelude.{ℕ, Bool, List, ◌++◌, ℤ}
use Rattle.rules.specs.Lists.{up_to, joined}
use Rattle.composing.specs.Text.{ascii, decimal}
use Rattle.parts.specs.Parts.{only}
use Rattle.table_heads.specs.Heads.{caption, labels_head, head, rows_in}
use Rattle.table_heads.specs.declared.Shape.{Shape}
use Rattle.table_width.specs.Width.{measure}
use Rattle.web_rows.specs.Rows.{web_row, web_foot}

-- the table's element with its width, of the kind of the key figures or of none, and the caption
unfoldable pub web_top : Bool → List ℕ → ℕ → List ℕ
web_top key words width =
    ascii "<div class=\"t\" tabindex=\"0\"><table"
    ++ (only key (ascii " class=\"k\"")
    ++ (ascii " style=\"--n:" ++ (decimal width ++ (ascii "\">\n<caption>" ++ (caption words ++ ascii "</caption>\n")))))

-- the head of a column, and the row of heads
unfoldable pub web_head : List ℕ → Shape → ℕ → List ℕ
web_head words shape j = ascii "<th scope=\"col\">" ++ (head words shape j ++ ascii "</th>")

unfoldable pub web_heads : List ℕ → Shape → List ℕ
web_heads words shape =
    ascii "<thead><tr><th scope=\"col\">"
    ++ (labels_head words ++ (ascii "</th>" ++ (joined (up_to (web_head words shape) shape.columns) ++ ascii "</tr></thead>\n")))

module _ (labels total : List ℕ) (shape : Shape) (values : List ℤ) (styles : List ℕ) where
  -- the body
  unfoldable pub web_body : List ℕ
  web_body = ascii "<tbody>\n" ++ (joined (up_to (web_row labels total shape values styles) shape.rows) ++ ascii "</tbody>\n")

  -- the table
  unfoldable pub web_table : Bool → List ℕ → List ℕ
  web_table key words =
      web_top key words (measure values styles shape.columns (rows_in total shape))
      ++ (web_heads words shape ++ (web_body ++ (web_foot labels total shape values styles ++ ascii "</table></div>\n")))
