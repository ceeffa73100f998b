-- A table whose columns are figures of the report beside each other, a row for each year, with a total row. Assumes nothing.
use Rattle.std.specs.Prelude.{ℕ, ◌+◌, ◌≤◌, ◌<◌, Bool, false, List, [], ◌∷◌, ℤ}
use Rattle.signed_sums.specs.Small.{Sized}
use Rattle.table_heads.specs.declared.Shape.{Shape}
use Rattle.table_heads.specs.Heads.{Fits}
use Rattle.table.specs.Table.{table}
use Rattle.totals_row.specs.Totals.{most_value}
use Rattle.vectors.specs.Vectors.{most_figures}
use Rattle.placing.specs.Placing.{Grid, blank, totalled}
use Rattle.columns.specs.Columns.{columns_up_to}

-- a row for each of n years from `from` on, and columns that are no development years
abbrev pub year_rows : ℕ → ℕ → ℕ → Shape
year_rows from n columns = record { rows = n; columns = columns; years = 0; from = from }

-- the body's grid: column j has the figures from its start on, with its decimals
unfoldable pub body_grid : ℕ → ℕ → List ℕ → List ℕ → List ℤ → Grid
body_grid columns rows starts decimals xs = columns_up_to columns rows starts decimals columns xs blank

-- with the totals of the columns from `first` on before `end`
unfoldable pub column_grid : Shape → List ℕ → List ℕ → ℕ → ℕ → List ℤ → Grid
column_grid shape starts decimals first end xs =
    totalled shape.rows shape.columns first end (body_grid shape.columns shape.rows starts decimals xs)

-- the table, which shows no total where its label is empty
unfoldable pub column_table : Bool → List ℕ → List ℕ → Shape → List ℕ → List ℕ → ℕ → ℕ → List ℤ → List ℕ
column_table html words total shape starts decimals first end xs =
    table html false words [] total shape (column_grid shape starts decimals first end xs).values (column_grid shape starts decimals first end xs).styles

-- a fact of every entry, and of 0, which is read past the last
abbrev pub Each : (ℕ → Type 0) → List ℕ → Type 0
Each p [] = p 0
Each p (x ∷ xs) = p x × Each p xs

-- what is asked: before a place `top` of the array no figure is too large for a total, and every column ends there
pub record Columned (shape : Shape) (starts decimals : List ℕ) (xs : List ℤ) : Type 0 where
  pub top : ℕ
  pub top_most : top ≤ most_figures
  pub small : Sized most_value 0 top xs
  pub within : Each (λ s. s + shape.rows ≤ top) starts
  pub digits : Each (λ d. d < 10) decimals
  pub fits : Fits shape
  pub rows_least : 1 ≤ shape.rows
  pub rows_most : shape.rows ≤ 17
  pub columns_most : shape.columns ≤ 12
