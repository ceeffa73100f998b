-- Figures placed one after another, and row after row. Assumes nothing.
use Prim.Native.Nat.{ℕ, zero, suc, ◌+◌, ◌-◌, ◌*◌, ◌≤◌, ◌<◌}
use native.Mathlib.Numerals.{add-one}
use native.Mathlib.Nat.{mul-le-mul_right}
use native.Mathlib.Omega.{arith}
use mathlib.Core.Path.{◌≡◌, refl, ap, ap₂, ◌∙◌}
use mathlib.Core.List.{List}
use lib.IntN.{ℤ}
use lib.ListN.{set}
use Rattle.rules.specs.Record.{cells}
use Rattle.rules.specs.Triangle.{row_start, future_start}
use Rattle.laws.proofs.TriangleRows.{row_within}
use Rattle.table_cells.specs.Cells.{most_places}
use Rattle.vectors.specs.Vectors.{figure_at}
use Rattle.placing.specs.Placing.{Grid, Holds, with_cell, placed, placed_as, past_rows, future_rows}

-- one figure more
pub placed_more : (κ : ℕ → ℕ) (first step start m : ℕ) (xs : List ℤ) (g : Grid) (values : List ℤ) (styles : List ℕ) → Holds (placed κ first step start m xs g) values styles
    → Holds (placed κ first step start (m + 1) xs g) (set values (first + m * step) (figure_at xs (start + m))) (set styles (first + m * step) (κ m))
unfolding placed
placed_more κ first step start m xs g values styles h =
    rw (add-one m)
    (ap (λ (l : List ℤ). set l (first + m * step) (figure_at xs (start + m))) h.0, ap (λ (l : List ℕ). set l (first + m * step) (κ m)) h.1)

-- the same styles
pub placed_same : (κ λ' : ℕ → ℕ) (first step start n : ℕ) (xs : List ℤ) (g : Grid) → ((m : ℕ) → m < n → κ m ≡ λ' m)
    → placed κ first step start n xs g ≡ placed λ' first step start n xs g
unfolding placed
placed_same κ λ' first step start zero xs g e = refl
placed_same κ λ' first step start (suc n) xs g e =
    ap₂ (λ (s : ℕ) (h : Grid). with_cell (first + n * step) (figure_at xs (start + n)) s h) (e n (omega arith)) (placed_same κ λ' first step start n xs g (λ m h. e m (omega arith)))

-- one row more
pub past_more : (κ : ℕ → ℕ) (c start k i : ℕ) (xs : List ℤ) (g : Grid)
    → placed (λ m. κ (row_start k i + m)) (i * c) 1 (start + row_start k i) (k + 1 - i) xs (past_rows κ c start k i xs g) ≡ past_rows κ c start k (i + 1) xs g
unfolding past_rows
past_more κ c start k i xs g = rw (add-one i)

pub future_more : (style c start k i : ℕ) (xs : List ℤ) (g : Grid)
    → placed_as style (i * c + (k + 1 - i)) 1 (start + future_start i) i xs (future_rows style c start k i xs g) ≡ future_rows style c start k (i + 1) xs g
unfolding future_rows
future_more style c start k i xs g = rw (add-one i)

-- a cell of row i stands in the grid
pub cell_inside : (k c i m : ℕ) → i ≤ k → m < c → (k + 1) * c ≤ most_places → i * c + m < most_places
cell_inside k c i m h l most =
    let rows : (i + 1) * c ≤ (k + 1) * c = mul-le-mul_right c (omega arith) in
    omega arith

-- rows of the same styles, of which those of the triangle count
pub past_same : (κ λ' : ℕ → ℕ) (c start k i : ℕ) (xs : List ℤ) (g : Grid) → i ≤ k + 1 → ((m : ℕ) → m < cells k → κ m ≡ λ' m) → past_rows κ c start k i xs g ≡ past_rows λ' c start k i xs g
unfolding past_rows
past_same κ λ' c start k zero xs g h e = refl
past_same κ λ' c start k (suc i) xs g h e =
    placed_same (λ m. κ (row_start k i + m)) (λ m. λ' (row_start k i + m)) (i * c) 1 (start + row_start k i) (k + 1 - i) xs (past_rows κ c start k i xs g)
    (λ m l. e (row_start k i + m) (omega (arith, row_within k i (omega arith))))
    ∙ ap (λ (r : Grid). placed (λ m. λ' (row_start k i + m)) (i * c) 1 (start + row_start k i) (k + 1 - i) xs r) (past_same κ λ' c start k i xs g (omega arith) e)
