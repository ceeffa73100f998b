-- A table whose cells are picked from the report's single figures: the place of each, and its style. Assumes nothing.
use Rattle.std.specs.Prelude.{ℕ, zero, suc, ◌-◌, ◌*◌, ◌≤◌, ◌≡◌, Bool, true, List, [], map, ℤ, pos, get_or}
use Rattle.rules.specs.Lists.{padded, joined, every, between}
use Rattle.table_cells.specs.Cells.{plain, percentage, year, styled}
use Rattle.table_heads.specs.declared.Shape.{Shape}
use Rattle.table_heads.specs.Heads.{Fits}
use Rattle.placing.specs.Placing.{Grid, blank, with_cell}
use Rattle.table.specs.Table.{table}
use Rattle.summary_figures.specs.Summary.{singles}

-- how many cells such a table has at most
abbrev pub most_picked : ℕ
most_picked = 40

-- a cell: the place of its figure, and its style
abbrev pub Cell : Type 0
Cell = ℕ × ℕ

-- the styles: amounts, hundredths, millionths, ratios and years; and a blank cell
abbrev pub amount : ℕ → Cell
amount place = (place, styled plain 0)

abbrev pub hundredths : ℕ → Cell
hundredths place = (place, styled plain 2)

abbrev pub millionths : ℕ → Cell
millionths place = (place, styled plain 6)

abbrev pub ratio : ℕ → Cell
ratio place = (place, styled percentage 4)

abbrev pub yearly : ℕ → Cell
yearly place = (place, styled year 0)

abbrev pub nothing : Cell
nothing = (0, 0)

-- the places and the styles of the cells of a table, row by row, in two arrays
unfoldable pub places_of : List (List Cell) → List ℕ
places_of rows = padded most_picked 0 (map (λ c. c.0) (joined rows))

unfoldable pub kinds_of : List (List Cell) → List ℕ
kinds_of rows = padded most_picked 0 (map (λ c. c.1) (joined rows))

-- n cells picked, row by row
unfoldable pub picked : List ℤ → List ℕ → List ℕ → ℕ → Grid → Grid
picked figures places kinds zero g = g
picked figures places kinds (suc p) g = with_cell p (get_or figures (get_or places p 0) (pos 0)) (get_or kinds p 0) (picked figures places kinds p g)

-- the table, with no total
unfoldable pub picked_table : Bool → Bool → List ℕ → List ℕ → Shape → List ℤ → List ℕ → List ℕ → List ℕ
picked_table html key words labels shape figures places kinds =
    let g = picked figures places kinds (shape.rows * shape.columns) blank in
    table html key words labels [] shape g.values g.styles

-- a shape that has so many cells at most, and places of the array alone
pub record Picks (shape : Shape) (places : List ℕ) : Type 0 where
  pub fits : Fits shape
  pub few : shape.rows * shape.columns ≤ most_picked
  pub inside : every (between 0 (singles - 1)) places ≡ true
