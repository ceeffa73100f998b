-- Grids of small figures have small numbers. Assumes nothing.
use Prim.Native.Nat.{ℕ, zero, suc, ◌+◌, ◌-◌, ◌*◌, ◌≤◌, ◌<◌, zero-le}
use native.Mathlib.Decide.{dec_lt, ℕ_discrete}
use native.Mathlib.Omega.{arith}
use mathlib.Core.Path.{◌≡◌, refl}
use mathlib.Core.List.{List}
use lib.IntN.{ℤ, pos, nat_abs}
use lib.ListN.{length, get_or, set, replicate, get_or-eq_default, length-set}
use lib.Seq.{get_or-set_same, get_or-set_other}
use Rattle.rules.specs.Record.{cells}
use Rattle.rules.specs.Triangle.{row_start, future_start}
use Rattle.laws.proofs.Padded.{same_all}
use Rattle.laws.proofs.TriangleRows.{row_within}
use Rattle.listing.proofs.Known.{start_least}
use Rattle.signed_sums.specs.Small.{Sized}
use Rattle.table_cells.specs.Cells.{most_places}
use Rattle.vectors.specs.Vectors.{figure_at}
use Rattle.placing.specs.Placing.{Grid, grid, blank, with_cell, placed, past_rows, future_rows, AtMost}

pub blank_small : (b : ℕ) → AtMost b blank
blank_small b = same_all (λ (z : ℤ). nat_abs z ≤ b) (pos 0) (pos 0) zero-le zero-le most_places

-- one number more
set_small : (b : ℕ) (l : List ℤ) (i : ℕ) (z : ℤ) → nat_abs z ≤ b → ((p : ℕ) → nat_abs (get_or l p (pos 0)) ≤ b) → (p : ℕ) → nat_abs (get_or (set l i z) p (pos 0)) ≤ b
set_small b l i z h small p = go (ℕ_discrete p i) (dec_lt i (length l))
  where
    go : Dec (p ≡ i) → Dec (i < length l) → nat_abs (get_or (set l i z) p (pos 0)) ≤ b
    go (no d) q = rw (get_or-set_other l i p z (pos 0) d) (small p)
    go (yes e) (yes q) = rw (e, get_or-set_same l i z (pos 0) q) h
    go (yes e) (no q) = rw (e, get_or-eq_default (set l i z) (pos 0) {n = i} (rw (length-set l i z) (omega arith))) zero-le

-- figures from a place on
pub placed_small : (b : ℕ) (κ : ℕ → ℕ) (first step start n : ℕ) (xs : List ℤ) (g : Grid) → Sized b start n xs → AtMost b g → AtMost b (placed κ first step start n xs g)
unfolding placed
placed_small b κ first step start zero xs g small h = h
placed_small b κ first step start (suc m) xs g small h =
    set_small b (placed κ first step start m xs g).values (first + m * step) (figure_at xs (start + m)) (small m (omega arith))
    (placed_small b κ first step start m xs g (λ i l. small i (omega arith)) h)

-- triangles
pub past_small : (b : ℕ) (κ : ℕ → ℕ) (c start k i : ℕ) (xs : List ℤ) (g : Grid) → i ≤ k + 1 → Sized b start (cells k) xs → AtMost b g → AtMost b (past_rows κ c start k i xs g)
unfolding past_rows
past_small b κ c start k zero xs g l small h = h
past_small b κ c start k (suc i) xs g l small h =
    placed_small b (λ m. κ (row_start k i + m)) (i * c) 1 (start + row_start k i) (k + 1 - i) xs (past_rows κ c start k i xs g)
    (λ m t. let e : start + row_start k i + m ≡ start + (row_start k i + m) = omega arith in rw e (small (row_start k i + m) (omega (arith, row_within k i (omega arith)))))
    (past_small b κ c start k i xs g (omega arith) small h)

pub future_small : (b : ℕ) (style c start k i : ℕ) (xs : List ℤ) (g : Grid) → i ≤ k + 1 → Sized b start (future_start (k + 1)) xs → AtMost b g → AtMost b (future_rows style c start k i xs g)
unfolding future_rows
future_small b style c start k zero xs g l small h = h
future_small b style c start k (suc i) xs g l small h =
    placed_small b (λ m. style) (i * c + (k + 1 - i)) 1 (start + future_start i) i xs (future_rows style c start k i xs g)
    (λ m t. let e : start + future_start i + m ≡ start + (future_start i + m) = omega arith in rw e (small (future_start i + m) (omega (arith, start_least k i (omega arith)))))
    (future_small b style c start k i xs g (omega arith) small h)
