-- Places within a table, the largest of some numbers, and styles. Assumes nothing.
use mathlib.Core.Path.{◌≡◌, refl}
use Prim.Native.Nat.{ℕ, zero, suc, ◌+◌, ◌*◌, ◌<◌, ◌≤◌, max}
use native.Mathlib.Nat.{mul-le-mul_right}
use native.Mathlib.Numerals.{add-one}
use native.Mathlib.Omega.{arith}
use Rattle.table_cells.specs.Cells.{styled, mark_of, decimals_of, largest}

-- the place of cell (i, j) is before the end of row i
pub place_room : (i j n columns : ℕ) → i < n → j < columns → i * columns + j < n * columns
place_room i j n columns h l = omega (arith, mul-le-mul_right columns h)

-- the largest of none, and of one more
pub largest_none : (f : ℕ → ℕ) → 0 ≡ largest f 0
unfolding largest
largest_none f = refl

pub largest_more : (f : ℕ → ℕ) (n : ℕ) → max (largest f n) (f n) ≡ largest f (n + 1)
unfolding largest
largest_more f n = rw (add-one n)

-- what none is above, the largest is not above
pub largest_most : (f : ℕ → ℕ) (b n : ℕ) → ((i : ℕ) → i < n → f i ≤ b) → largest f n ≤ b
unfolding largest
largest_most f b zero h = omega arith
largest_most f b (suc n) h = omega (arith, largest_most f b n (λ i l. h i (omega arith)), h n (omega arith))

-- the mark and the decimals of a style are those that it was made of
pub styled_mark : (mark d : ℕ) → d < 10 → mark_of (styled mark d) ≡ mark
unfolding mark_of styled
styled_mark mark d h = omega arith

pub styled_decimals : (mark d : ℕ) → d < 10 → decimals_of (styled mark d) ≡ d
unfolding decimals_of styled
styled_decimals mark d h = omega arith
