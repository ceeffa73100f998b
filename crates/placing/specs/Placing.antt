-- Figures placed in the grid of a table, which has a place for each cell, row by row. Assumes nothing.
use Rattle.std.specs.Prelude.{ℕ, zero, suc, ◌+◌, ◌-◌, ◌*◌, ◌≤◌, ◌≡◌, List, ℤ, pos, nat_abs, get_or, set, replicate}
use Rattle.std.proofs.lemmas.List.Edits.{sets}
use Rattle.rules.specs.Lists.{up_to}
use Rattle.rules.specs.Triangle.{row_start, future_start}
use Rattle.table_cells.specs.Cells.{most_places}
use Rattle.totals_row.specs.Totals.{most_value, total_value, total_style}
use Rattle.vectors.specs.Vectors.{figure_at}

-- the numbers and the styles of a table's cells
pub record Grid : Type 0 where
  pub values : List ℤ
  pub styles : List ℕ

abbrev pub grid : List ℤ → List ℕ → Grid
grid values styles = record { values = values; styles = styles }

-- two arrays hold a grid
abbrev pub Holds : Grid → List ℤ → List ℕ → Type 0
Holds g values styles = (values ≡ g.values) × (styles ≡ g.styles)

-- blank cells alone
abbrev pub blank : Grid
blank = grid (replicate most_places (pos 0)) (replicate most_places 0)

-- a number with a style at place p
abbrev pub with_cell : ℕ → ℤ → ℕ → Grid → Grid
with_cell p z style g = grid (set g.values p z) (set g.styles p style)

-- n figures of xs from place `start` on, at the places first, first + step, .., with the styles κ
unfoldable pub placed : (ℕ → ℕ) → ℕ → ℕ → ℕ → ℕ → List ℤ → Grid → Grid
placed κ first step start zero xs g = g
placed κ first step start (suc m) xs g = with_cell (first + m * step) (figure_at xs (start + m)) (κ m) (placed κ first step start m xs g)

-- the same with one style
abbrev pub placed_as : ℕ → ℕ → ℕ → ℕ → ℕ → List ℤ → Grid → Grid
placed_as style = placed (λ m. style)

-- the rows before row n of a triangle of the years 0 to k, by row from place `start` on, in a table of c columns: up to the diagonal, with the styles κ in the same order
unfoldable pub past_rows : (ℕ → ℕ) → ℕ → ℕ → ℕ → ℕ → List ℤ → Grid → Grid
past_rows κ c start k zero xs g = g
past_rows κ c start k (suc i) xs g = placed (λ m. κ (row_start k i + m)) (i * c) 1 (start + row_start k i) (k + 1 - i) xs (past_rows κ c start k i xs g)

-- and past the diagonal, with one style
unfoldable pub future_rows : ℕ → ℕ → ℕ → ℕ → ℕ → List ℤ → Grid → Grid
future_rows style c start k zero xs g = g
future_rows style c start k (suc i) xs g = placed_as style (i * c + (k + 1 - i)) 1 (start + future_start i) i xs (future_rows style c start k i xs g)

-- with a row after the rows of the body that has the sums of the columns from `first` on before `end`
unfoldable pub totalled : ℕ → ℕ → ℕ → ℕ → Grid → Grid
totalled rows columns first end g =
    grid (sets g.values (rows * columns) (up_to (total_value g.values columns rows first end) columns)) (sets g.styles (rows * columns) (up_to (total_style g.styles first end) columns))

-- no number is above b in size; none is too large for a total
abbrev pub AtMost : ℕ → Grid → Type 0
AtMost b g = (p : ℕ) → nat_abs (get_or g.values p (pos 0)) ≤ b

abbrev pub Totalling : Grid → Type 0
Totalling g = AtMost most_value g
