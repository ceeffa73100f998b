-- How many entries n rows have: as many in each; in each one more; and as many as there are rows, in each one fewer. Assumes nothing.
use mathlib.Core.Path.{◌≡◌, refl, ap}
use Prim.Native.Nat.{ℕ, zero, suc, ◌+◌, ◌-◌, ◌*◌}
use native.Mathlib.Omega.{arith}
use Rattle.rules.specs.Triangle.{future_start}
use Rattle.rows.specs.Rows.{falling, rising, level, next_row, entries_in}
use Rattle.rows.specs.declared.Rows.{Rows}

entries_same : (n : ℕ) (r : Rows) → r.up ≡ 0 → r.down ≡ 0 → entries_in n r ≡ n * r.count
unfolding entries_in next_row
entries_same zero r u d = omega arith
entries_same (suc n) r u d =
    let e : r.count + r.up - r.down ≡ r.count = omega arith in
    omega (arith, entries_same n (next_row r) u d, ap (λ (c : ℕ). n * c) e)

entries_more : (n : ℕ) (r : Rows) → r.up ≡ 1 → r.down ≡ 0 → entries_in n r ≡ n * r.count + future_start n
unfolding entries_in next_row future_start
entries_more zero r u d = omega arith
entries_more (suc n) r u d =
    let e : r.count + r.up - r.down ≡ r.count + 1 = omega arith in
    omega (arith, entries_more n (next_row r) u d, ap (λ (c : ℕ). n * c) e)

entries_fewer : (n : ℕ) (r : Rows) → r.up ≡ 0 → r.down ≡ 1 → r.count ≡ n → entries_in n r ≡ future_start n + n
unfolding entries_in next_row future_start
entries_fewer zero r u d c = omega arith
entries_fewer (suc n) r u d c = omega (arith, entries_fewer n (next_row r) u d (omega arith))

pub entries_level : (n b m : ℕ) → entries_in n (level b m) ≡ n * m
entries_level n b m = entries_same n (level b m) refl refl

pub entries_rising : (n b : ℕ) → entries_in n (rising b) ≡ future_start n
entries_rising n b = omega (arith, entries_more n (rising b) refl refl)

pub entries_falling : (n : ℕ) → entries_in n (falling n) ≡ future_start n + n
entries_falling n = entries_fewer n (falling n) refl refl refl
