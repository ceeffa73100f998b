-- The cells of a row of a table as text, each at the right of its column. Assumes nothing.
use Rattle.std.specs.Prelude.{ℕ, zero, suc, ◌+◌, cond, List, eqb, ℤ, get_or}
use Rattle.rules.specs.Lists.{up_to, joined}
use Rattle.composing.specs.Text.{right}
use Rattle.table_cells.specs.Cells.{text_cell_at}

-- how many of n cells from place p on there are up to the last that is not blank
unfoldable pub filled : List ℕ → ℕ → ℕ → ℕ
filled styles p zero = 0
filled styles p (suc n) = cond (eqb (get_or styles (p + n) 0) 0) (filled styles p n) (suc n)

-- n cells from place p on, in columns of these widths
unfoldable pub text_cells : List ℕ → List ℤ → List ℕ → ℕ → ℕ → List ℕ
text_cells widths values styles p n = joined (up_to (λ j. right (get_or widths j 0) (text_cell_at values styles (p + j))) n)
