-- Cells picked one after another. Assumes nothing.
use Prim.Native.Nat.{ℕ, zero, suc, ◌+◌, ◌-◌, ◌*◌, ◌≤◌}
use native.Mathlib.Numerals.{add-one}
use native.Mathlib.Nat.{mul-le-mul}
use native.Mathlib.Omega.{arith}
use mathlib.Core.Path.{◌≡◌, ap}
use mathlib.Core.Bool.{true}
use mathlib.Core.List.{List}
use lib.IntN.{ℤ, pos, nat_abs}
use lib.ListN.{get_or, set}
use Rattle.rules.specs.Lists.{every, between}
use Rattle.table_heads.specs.declared.Shape.{Shape}
use Rattle.summary_figures.specs.Summary.{singles}
use Rattle.placing.specs.Placing.{Grid, Holds, placed, AtMost}
use Rattle.placing.proofs.Small.{placed_small}
use Rattle.picked_table.specs.Picked.{picked, Picks}

-- one cell more
pub picked_more : (figures : List ℤ) (places kinds : List ℕ) (p : ℕ) (g : Grid) (values : List ℤ) (styles : List ℕ) → Holds (picked figures places kinds p g) values styles
    → Holds (picked figures places kinds (p + 1) g) (set values p (get_or figures (get_or places p 0) (pos 0))) (set styles p (get_or kinds p 0))
unfolding picked
picked_more figures places kinds p g values styles h =
    rw (add-one p)
    (ap (λ (v : List ℤ). set v p (get_or figures (get_or places p 0) (pos 0))) h.0, ap (λ (v : List ℕ). set v p (get_or kinds p 0)) h.1)

-- a small table picks from the array
pub picks : (shape : Shape) (places : List ℕ) → shape.rows ≤ 9 → shape.columns ≤ 4 → shape.from ≤ 100000 → every (between 0 (singles - 1)) places ≡ true → Picks shape places
picks shape places rows columns from inside =
    let cells : shape.rows * shape.columns ≤ 9 * 4 = mul-le-mul rows columns in
    record {
      fits = record { columns_most = omega arith; places_most = omega arith; rows_most = omega arith; from_most = from };
      few = omega arith;
      inside = inside;
    }

-- cells picked from small figures are small
pub picked_small : (b : ℕ) (figures : List ℤ) (places kinds : List ℕ) (n : ℕ) (g : Grid) → ((p : ℕ) → nat_abs (get_or figures p (pos 0)) ≤ b) → AtMost b g → AtMost b (picked figures places kinds n g)
unfolding picked placed
picked_small b figures places kinds zero g small h = h
picked_small b figures places kinds (suc p) g small h =
    let e : p + 0 * 1 ≡ p = omega arith in
    let f : get_or places p 0 + 0 ≡ get_or places p 0 = omega arith in
    let rest = picked_small b figures places kinds p g small h in
    rw (e, f) at (placed_small b (λ m. get_or kinds p 0) p 1 (get_or places p 0) 1 figures (picked figures places kinds p g) (λ i l. small (get_or places p 0 + i)) rest)
