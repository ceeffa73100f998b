-- A table of a triangle has places in the grid, its total too; and one placing after another. Assumes nothing.
use Prim.Native.Nat.{ℕ, ◌+◌, ◌*◌, ◌≤◌, ◌<◌}
use native.Mathlib.Nat.{mul-le-mul}
use native.Mathlib.Omega.{arith}
use mathlib.Core.Path.{◌≡◌, ap₂}
use mathlib.Core.List.{List}
use lib.IntN.{ℤ}
use Rattle.placing.specs.Placing.{Grid, grid, Holds}

pub room : (k c : ℕ) → k < 16 → c ≤ k + 3 → (k + 1 + 1) * c ≤ 320
room k c h l =
    let most : (k + 1 + 1) * c ≤ 17 * 18 = mul-le-mul {n₂ = 17} {m₂ = 18} (omega arith) (omega arith) in
    omega arith

pub rows_room : (k c : ℕ) → k < 16 → c ≤ k + 3 → (k + 1) * c ≤ 320
rows_room k c h l = omega (arith, room k c h l)

-- what was done to two arrays was done to the grid that they hold
pub next : (f : Grid → Grid) (g : Grid) {values values' : List ℤ} {styles styles' : List ℕ} → Holds g values styles → Holds (f (grid values styles)) values' styles' → Holds (f g) values' styles'
next f g {values} {values'} {styles} {styles'} h e =
    let same : grid values styles ≡ g = ap₂ grid h.0 h.1 in
    rw same at e
