-- How long a table as text is at most: a column is two wider than the longest of its head and its cells. Assumes nothing.
use mathlib.Core.List.{List}
use Prim.Native.Nat.{ℕ, ◌+◌, ◌*◌, ◌≤◌, max}
use native.Mathlib.Nat.{mul-le-mul, mul-le-mul_right}
use native.Mathlib.Omega.{arith}
use lib.IntN.{ℤ, pos}
use lib.ListN.{length, get_or, length-append, length-replicate}
use Rattle.rules.specs.Lists.{up_to, joined}
use Rattle.laws.proofs.Lists.{get_d_up_to}
use Rattle.composing.specs.Text.{spaces, right}
use Rattle.lines.proofs.Longest.{longest_line}
use Rattle.plot_lengths.proofs.Drawn.{joined_most}
use Rattle.table_cells.specs.Cells.{text_cell_at}
use Rattle.table_cells.proofs.Cells.{largest_most}
use Rattle.table_cells.proofs.Lengths.{text_cell_most, column_most}
use Rattle.table_heads.specs.declared.Shape.{Shape}
use Rattle.table_heads.specs.Heads.{labels_head, head, rows_in, label}
use Rattle.table_heads.proofs.Lengths.{head_most_lem, label_most_lem}
use Rattle.text_cells.specs.Cells.{filled, text_cells}
use Rattle.text_cells.proofs.Filled.{filled_most}
use Rattle.column_width.specs.Width.{column_width}
use Rattle.text_table.specs.Plain.{left, column_heads, label_places, head_line, row_line, text_table}
use Rattle.table_lengths.proofs.Most.{head_most, label_most, cell_most, row_most, table_most, line_head}

-- text at the right or at the left of w places
right_length : (w : ℕ) (xs : List ℕ) → length (right w xs) ≤ max w (length xs)
unfolding right spaces
right_length w xs = simp (length-append, length-replicate) (omega arith)

left_length : (w : ℕ) (xs : List ℕ) → length (left w xs) ≤ max w (length xs)
unfolding left spaces
left_length w xs = simp (length-append, length-replicate) (omega arith)

-- texts at the right of columns that are at most b wide, none longer than that
columns_most : (f : ℕ → ℕ) (g : ℕ → List ℕ) (m n b : ℕ) → n ≤ m → ((j : ℕ) → f j ≤ b) → ((j : ℕ) → length (g j) ≤ b)
    → length (joined (up_to (λ j. right (get_or (up_to f m) j 0) (g j)) n)) ≤ b * n
columns_most f g m n b h wide long =
    joined_most (λ j. right (get_or (up_to f m) j 0) (g j)) b n
    (λ j l. omega (arith, right_length (get_or (up_to f m) j 0) (g j), get_d_up_to f m j 0 (omega arith), wide j, long j))

-- the most of a column's width
abbrev width_most : List ℕ → ℕ
width_most words = 2 + max 32 (longest_line words)

module _ (words labels total : List ℕ) (shape : Shape) (values : List ℤ) (styles : List ℕ) where
  width_most_lem : (j : ℕ) → column_width words total shape values styles j ≤ width_most words
  unfolding column_width
  width_most_lem j = omega (arith, head_most_lem words shape j, column_most values styles shape.columns (rows_in total shape) j)

  places_most : label_places words labels total shape ≤ head_most words + label_most labels total
  unfolding label_places
  places_most =
      omega
      (arith, line_head 1 words, largest_most (λ i. length (label labels total shape i)) (label_most labels total) (rows_in total shape) (λ i l. label_most_lem labels total shape i))

  abbrev widths : List ℕ
  widths = up_to (column_width words total shape values styles) shape.columns

  head_line_most : length (head_line words shape (label_places words labels total shape) widths)
      ≤ 1 + head_most words + label_most labels total + (21 + head_most words) * shape.columns
  unfolding head_line column_heads
  head_line_most =
      let places = label_places words labels total shape in
      let n = shape.columns in
      let heads = columns_most (column_width words total shape values styles) (head words shape) n n (width_most words) (omega arith) width_most_lem (λ j. omega (arith, head_most_lem words shape j)) in
      let more : width_most words * n ≤ (21 + head_most words) * n = mul-le-mul_right n (omega arith) in
      simp length-append (omega (arith, left_length places (labels_head words), places_most, line_head 1 words, heads, more))

  row_line_most : (i : ℕ) → length (row_line labels total shape values styles (label_places words labels total shape) widths i) ≤ row_most words labels total shape.columns
  unfolding row_line text_cells
  row_line_most i =
      let places = label_places words labels total shape in
      let c = shape.columns in
      let n = filled styles (i * c) c in
      let cells = columns_most (column_width words total shape values styles) (λ j. text_cell_at values styles (i * c + j)) c n (width_most words) (filled_most styles (i * c) c) width_most_lem (λ j. omega (arith, text_cell_most (get_or styles (i * c + j) 0) (get_or values (i * c + j) (pos 0)))) in
      let fewer : width_most words * n ≤ cell_most words * c = mul-le-mul {n₂ = cell_most words} {m₂ = c} (omega arith) (filled_most styles (i * c) c) in
      simp length-append (omega (arith, left_length places (label labels total shape i), places_most, label_most_lem labels total shape i, cells, fewer))

  pub text_most : length (text_table words labels total shape values styles) ≤ table_most words labels total (rows_in total shape) shape.columns
  unfolding text_table table_most
  text_most =
      let places = label_places words labels total shape in
      let rows = joined_most (row_line labels total shape values styles places widths) (row_most words labels total shape.columns) (rows_in total shape) (λ i l. row_line_most i) in
      simp length-append (omega (arith, line_head 0 words, head_line_most, rows))
