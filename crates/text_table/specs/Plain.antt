-- A table of the report as text: labels at the left, heads and cells at the right of their columns. Assumes nothing.
use Rattle.std.specs.Prelude.{ℕ, ◌-◌, ◌*◌, max, List, ◌++◌, ℤ, length, get_or}
use Rattle.rules.specs.Lists.{up_to, joined}
use Rattle.composing.specs.Text.{ascii, spaces, right}
use Rattle.table_cells.specs.Cells.{largest}
use Rattle.table_heads.specs.Heads.{caption, labels_head, head, rows_in, label}
use Rattle.table_heads.specs.declared.Shape.{Shape}
use Rattle.text_cells.specs.Cells.{filled, text_cells}
use Rattle.column_width.specs.Width.{column_width}

-- text at the left of w places
unfoldable pub left : ℕ → List ℕ → List ℕ
left w xs = xs ++ spaces (w - length xs)

-- the heads of the columns
unfoldable pub column_heads : List ℕ → List ℕ → Shape → List ℕ
column_heads widths words shape = joined (up_to (λ j. right (get_or widths j 0) (head words shape j)) shape.columns)

-- the places of the labels: the longest of them and of the head over them
unfoldable pub label_places : List ℕ → List ℕ → List ℕ → Shape → ℕ
label_places words labels total shape =
    max (length (labels_head words)) (largest (λ i. length (label labels total shape i)) (rows_in total shape))

-- the line of heads, in these places for labels and columns of these widths
unfoldable pub head_line : List ℕ → Shape → ℕ → List ℕ → List ℕ
head_line words shape places widths = left places (labels_head words) ++ (column_heads widths words shape ++ ascii "\n")

-- and the line of row i, or of the total after the rows
unfoldable pub row_line : List ℕ → List ℕ → Shape → List ℤ → List ℕ → ℕ → List ℕ → ℕ → List ℕ
row_line labels total shape values styles places widths i =
    left places (label labels total shape i)
    ++ (text_cells widths values styles (i * shape.columns) (filled styles (i * shape.columns) shape.columns) ++ ascii "\n")

-- the caption after an empty line, the heads and the rows
unfoldable pub text_table : List ℕ → List ℕ → List ℕ → Shape → List ℤ → List ℕ → List ℕ
text_table words labels total shape values styles =
    let places = label_places words labels total shape in
    let widths = up_to (column_width words total shape values styles) shape.columns in
    ascii "\n"
    ++ (caption words
    ++ (ascii "\n" ++ (head_line words shape places widths ++ joined (up_to (row_line labels total shape values styles places widths) (rows_in total shape)))))
