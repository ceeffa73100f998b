-- Where the rows of a triangle start among its cells: the rows before and the rows after, and that every row ends within 136. Assumes nothing.
use mathlib.Core.Path.{◌≡◌, refl, ap}
use Prim.Native.Nat.{ℕ, zero, suc, ◌+◌, ◌-◌, ◌*◌, ◌≤◌, ◌<◌}
use native.Mathlib.Nat.{sub-zero, mul-le-mul}
use native.Mathlib.Numerals.{add-one}
use native.Mathlib.Omega.{arith}
use Rattle.rules.specs.Record.{cells}
use Rattle.rules.specs.Triangle.{row_start}

-- the cells are half of (k + 1) (k + 2), and at most 136
pub cells_twice : (k : ℕ) → 2 * cells k ≡ (k + 1) * (k + 2)
unfolding cells
cells_twice zero = refl
cells_twice (suc k) = omega (arith, cells_twice k)

pub cells_most : (k : ℕ) → k < 16 → cells k ≤ 136
cells_most k h =
    let m : (k + 1) * (k + 2) ≤ 16 * 17 = mul-le-mul {n₂ = 16} {m₂ = 17} (omega arith) (omega arith) in
    omega (arith, cells_twice k)

-- and at least those of its first row
pub cells_least : (k : ℕ) → k < cells k
unfolding cells
cells_least zero = omega arith
cells_least (suc k) = omega (arith, cells_least k)

-- the rows from i on are the triangle of the years 0 to k − i
pub rows_from_lem : (k i : ℕ) → i ≤ k → row_start k i + cells (k - i) ≡ cells k
unfolding row_start cells
rows_from_lem k zero h = rw sub-zero (omega arith)
rows_from_lem k (suc i) h =
    let e : k - i ≡ suc (k - suc i) = omega arith in
    omega (arith, rows_from_lem k i (omega arith), ap cells e)

-- row i ends within 136 cells
pub row_room : (k i : ℕ) → k < 16 → i ≤ k → row_start k i + (k + 1 - i) ≤ 136
row_room k i h l = omega (arith, rows_from_lem k i l, cells_least (k - i), cells_most k h)

-- row i ends within the triangle
pub row_within : (k i : ℕ) → i ≤ k → row_start k i + (k + 1 - i) ≤ cells k
row_within k i h = omega (arith, rows_from_lem k i h, cells_least (k - i))

-- where the row after row i starts
pub row_start_more : (k i : ℕ) → row_start k (i + 1) ≡ row_start k i + (k + 1 - i)
unfolding row_start
row_start_more k i = rw (add-one i)

-- the rows 0 to k are the triangle
pub rows_all : (k : ℕ) → row_start k (k + 1) ≡ cells k
unfolding cells
rows_all k =
    let e : k - k ≡ 0 = omega arith in
    omega (arith, row_start_more k k, rows_from_lem k k (omega arith), ap cells e)
