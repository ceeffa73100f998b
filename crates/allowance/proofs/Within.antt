-- What "within an allowance, in hundredths, of a fraction" says in whole numbers, and its laws: added, multiplied, rounded down, over a finer or a
-- coarser denominator, and summed. Assumes nothing.
use mathlib.Core.Path.{◌≡◌}
use Prim.Native.Nat.{ℕ, zero, suc, ◌+◌, ◌*◌, ◌/◌, ◌≤◌, ◌<◌}
use native.Mathlib.Nat.{mul-le-mul_left, mul-le-mul_right, le_of_mul-le-mul_right, div-mul-le_self, lt-div-mul-add}
use native.Mathlib.Omega.{arith}
use lib.IntN.{ℤ, pos, negsuc, nat_abs, ◌-ℤ◌}
use Rattle.rules.specs.Lists.{total, up_to}
use Rattle.rules.specs.Triangle.{sum_to}
use Rattle.rules.specs.Demand.{Within}
use Rattle.laws.proofs.Diff.{Raw, Is, is_pos, is_self, is_add, is_minus}
use Rattle.laws.proofs.Totals.{total_none, total_more}

size : (z : ℤ) (a b : ℕ) → Raw z a b → (a ≤ b + nat_abs z) × (b ≤ a + nat_abs z)
size (pos n) a b h = (omega arith, omega arith)
size (negsuc n) a b h = (omega arith, omega arith)

size_most : (z : ℤ) (a b c : ℕ) → Raw z a b → 100 * a ≤ 100 * b + c → 100 * b ≤ 100 * a + c → 100 * nat_abs z ≤ c
size_most (pos n) a b c h p q = omega arith
size_most (negsuc n) a b c h p q = omega arith

-- the parts of a difference are no further from each other than its size
pub is_size : {z : ℤ} {a b : ℕ} → Is z a b → (a ≤ b + nat_abs z) × (b ≤ a + nat_abs z)
is_size {z} {a} {b} h = size z a b h.raw

-- the printed number y is within c hundredths of (a − b) / o
pub record Near (y a b o c : ℕ) : Type 0 where
  pub above : 100 * (y * o + b) ≤ 100 * a + c * o
  pub below : 100 * a ≤ 100 * (y * o + b) + c * o

-- from the demand's word to whole numbers, and back
pub near_of : {z : ℤ} {a b : ℕ} (y o c : ℕ) → Is z a b → Within y z o c → Near y a b o c
near_of y o c h w = let s = is_size (is_minus (is_pos (y * o)) h) in record { above = omega arith; below = omega arith }

pub within_of : {z : ℤ} {a b : ℕ} (y o c : ℕ) → Is z a b → Near y a b o c → Within y z o c
within_of {z} {a} {b} y o c h n =
    size_most (pos (y * o) -ℤ z) (y * o + b) (0 + a) (c * o) (is_minus (is_pos (y * o)) h).raw (omega arith) (omega arith)

-- the same fraction, written otherwise
pub near_same : {y a b o c a' b' o' : ℕ} → o ≡ o' → a + b' ≡ a' + b → Near y a b o c → Near y a' b' o' c
near_same e w n = rw (← e) (record { above = omega arith; below = omega arith })

-- two added
pub near_add : {y a b o c y' a' b' c' : ℕ} → Near y a b o c → Near y' a' b' o c' → Near (y + y') (a + a') (b + b') o (c + c')
near_add n n' = record { above = omega arith; below = omega arith }

-- multiplied by a whole number
pub near_times : {y a b o c : ℕ} (m : ℕ) → Near y a b o c → Near (m * y) (m * a) (m * b) o (m * c)
near_times m n = record { above = omega (arith, mul-le-mul_left m n.above); below = omega (arith, mul-le-mul_left m n.below) }

-- divided by a whole number and rounded down: the allowance is divided too, and grows by 1
pub near_floor : {y a b o c : ℕ} (m e : ℕ) → 0 < m → c + 100 * m ≤ e * m → Near y a b o c → Near (y / m) a b (o * m) e
near_floor {y} {a} {b} {o} {c} m e p l n = record {
  above = omega (arith, mul-le-mul_right o (div-mul-le_self y m), mul-le-mul_right o l);
  below = let f : y ≤ y / m * m + m = omega (arith, lt-div-mul-add {a = y} p) in omega (arith, mul-le-mul_right o f, mul-le-mul_right o l);
}

-- over a finer denominator, and over a coarser one
pub near_finer : {y a b o c : ℕ} (m : ℕ) → Near y a b o c → Near y (m * a) (m * b) (o * m) c
near_finer m n = record { above = omega (arith, mul-le-mul_left m n.above); below = omega (arith, mul-le-mul_left m n.below) }

pub near_coarser : {y a b o c : ℕ} (m : ℕ) → 0 < m → Near y (m * a) (m * b) (o * m) c → Near y a b o c
near_coarser m p n = record {
  above = le_of_mul-le-mul_right {k = m} (omega arith) p;
  below = le_of_mul-le-mul_right {k = m} (omega arith) p;
}

-- sums: of printed numbers, of numerators over one denominator, and of allowances
pub within_sum : (y : ℕ → ℕ) (z : ℕ → ℤ) (c : ℕ → ℕ) (o n : ℕ) → ((i : ℕ) → i < n → Within (y i) (z i) o (c i)) →
    Within (total (up_to y n)) (sum_to z n) o (total (up_to c n))
unfolding sum_to
within_sum y z c o zero w = rw (total_none y, total_none c) (within_of 0 o 0 (is_pos 0) (record { above = omega arith; below = omega arith }))
within_sum y z c o (suc n) w =
    rw (total_more y n, total_more c n)
    (within_of _ o _ (is_add (is_self (sum_to z n)) (is_self (z n)))
    (near_add (near_of _ o _ (is_self (sum_to z n)) (within_sum y z c o n (λ i l. w i (omega arith)))) (near_of _ o _ (is_self (z n)) (w n (omega arith)))))
