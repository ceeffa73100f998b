-- The section of the chain ladder. Assumes nothing.
use Rattle.std.specs.Prelude.{ℕ, ◌+◌, ◌*◌, Bool, List, ◌++◌, ℤ}
use Rattle.listing.specs.Starts.{starts_of}
use Rattle.composing.specs.Text.{ascii}
use Rattle.parts.specs.Parts.{only, section_head, section_end}
use Rattle.table_cells.specs.Cells.{plain, styled}
use Rattle.placing.specs.Placing.{Grid, blank, placed_as}
use Rattle.figure_places.specs.Places.{added_at}
use Rattle.triangle_tables.specs.Tables.{square, triangle_table}

-- the cumulatives up to the diagonal, the completed ones past it, and the k factors in the row after the origin years
unfoldable pub ladder_grid : ℕ → List ℤ → Grid
ladder_grid k xs =
    placed_as (styled plain 6) ((k + 1) * (k + 1)) 1 (starts_of k).factors k xs (square (k + 1) (added_at k).cumulatives (starts_of k).completed k xs blank)

unfoldable pub ladder_table : Bool → ℕ → ℕ → List ℤ → List ℕ
ladder_table html first k xs =
    triangle_table html (ascii "Cumulatives, by origin and development year\norigin year\n") (ascii "factor") first k (k + 1) (ladder_grid k xs)

unfoldable pub ladder_section : Bool → ℕ → ℕ → List ℤ → List ℕ
ladder_section html first k xs =
    section_head html (ascii "Chain ladder")
    ++ (only html (ascii "<p>Cumulative payments. Unshaded: paid up to the development year. Shaded: completed, each the one before it times the factor in the last row under that one, rounded down. The last column is the chain ladder's ultimate. The chain ladder is proved to follow its rule, roundings included; no allowance is stated for it.</p>\n")
    ++ (ladder_table html first k xs ++ section_end html))
