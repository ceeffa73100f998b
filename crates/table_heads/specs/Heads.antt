-- Heads and labels of a table of the report. Its words stand a line each: the caption, the head over the labels, and the heads of the columns that
-- are not years. Labels stand a line each too; without any the rows are years. Assumes nothing.
use Rattle.std.specs.Prelude.{ℕ, ◌+◌, ◌-◌, ◌*◌, ◌≤◌, cond, List, eqb, ltb, length}
use Rattle.composing.specs.Text.{decimal}
use Rattle.lines.specs.Lines.{line_of}
use Rattle.table_heads.specs.declared.Shape.{Shape}

-- a shape that the arrays have places for, with a row for a total; the other limits are wide
pub record Fits (shape : Shape) : Type 0 where
  pub columns_most : shape.columns ≤ 20
  pub places_most : (shape.rows + 1) * shape.columns ≤ 320
  pub rows_most : shape.rows ≤ 320
  pub from_most : shape.from ≤ 100000

abbrev pub caption : List ℕ → List ℕ
caption words = line_of 0 words

-- the head over the labels
abbrev pub labels_head : List ℕ → List ℕ
labels_head words = line_of 1 words

-- the head of column j
unfoldable pub head : List ℕ → Shape → ℕ → List ℕ
head words shape j = cond (ltb j shape.years) (decimal j) (line_of (2 + (j - shape.years)) words)

-- how many rows there are: one more than the body has where there is a total, whose label is not empty
unfoldable pub rows_in : List ℕ → Shape → ℕ
rows_in total shape = shape.rows + cond (eqb (length total) 0) 0 1

-- the label of row i of the body, or of the total after it
unfoldable pub label : List ℕ → List ℕ → Shape → ℕ → List ℕ
label labels total shape i =
    cond (ltb i shape.rows) (cond (eqb (length labels) 0) (decimal (shape.from + i)) (line_of i labels)) total
