-- Columns of small figures make a grid of small numbers. Assumes nothing.
use Prim.Native.Nat.{ℕ, zero, suc, ◌+◌, ◌≤◌}
use native.Mathlib.Omega.{arith}
use mathlib.Core.Path.{◌≡◌}
use mathlib.Core.List.{List, [], ◌∷◌}
use lib.IntN.{ℤ}
use lib.ListN.{get_or}
use Rattle.signed_sums.specs.Small.{Sized}
use Rattle.table_cells.specs.Cells.{plain, styled}
use Rattle.placing.specs.Placing.{Grid, blank, AtMost}
use Rattle.placing.proofs.Small.{blank_small, placed_small}
use Rattle.columns.specs.Columns.{columns_up_to}
use Rattle.column_table.specs.ColumnTable.{body_grid, Each}

-- a fact of every entry is one of entry j
pub each_at : (p : ℕ → Type 0) (xs : List ℕ) → Each p xs → (j : ℕ) → p (get_or xs j 0)
each_at p [] h j = h
each_at p (x ∷ xs) h zero = h.0
each_at p (x ∷ xs) h (suc j) = each_at p xs h.1 j

-- columns that end before a place before which all figures are small
columns_small : (b top c n : ℕ) (starts decimals : List ℕ) (j : ℕ) (xs : List ℤ) (g : Grid) → ((i : ℕ) → get_or starts i 0 + n ≤ top) → Sized b 0 top xs → AtMost b g
    → AtMost b (columns_up_to c n starts decimals j xs g)
unfolding columns_up_to
columns_small b top c n starts decimals zero xs g ends small h = h
columns_small b top c n starts decimals (suc j) xs g ends small h =
    let start = get_or starts j 0 in
    placed_small b (λ m. styled plain (get_or decimals j 0)) j c start n xs (columns_up_to c n starts decimals j xs g)
    (λ i l. let e : 0 + (start + i) ≡ start + i = omega arith in rw e at (small (start + i) (omega (arith, ends j))))
    (columns_small b top c n starts decimals j xs g ends small h)

pub body_small : (b top c n : ℕ) (starts decimals : List ℕ) (xs : List ℤ) → ((i : ℕ) → get_or starts i 0 + n ≤ top) → Sized b 0 top xs
    → AtMost b (body_grid c n starts decimals xs)
unfolding body_grid
body_small b top c n starts decimals xs ends small = columns_small b top c n starts decimals c xs blank ends small (blank_small b)
