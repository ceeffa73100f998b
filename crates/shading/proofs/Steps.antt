-- Steps are few, and no size is above the largest. Assumes nothing.
use Prim.Native.Nat.{ℕ, zero, suc, ◌+◌, ◌*◌, ◌≤◌, ◌<◌, max}
use native.Mathlib.Decide.{ℕ_discrete}
use native.Mathlib.Nat.{div-lt_iff_lt-mul, not-suc-le-zero}
use native.Mathlib.Omega.{arith}
use mathlib.Core.Path.{◌≡◌}
use mathlib.Core.List.{List}
use lib.IntN.{ℤ, nat_abs}
use Rattle.signed_sums.specs.Small.{Sized}
use Rattle.table_cells.specs.Cells.{largest}
use Rattle.table_cells.proofs.Cells.{largest_most}
use Rattle.vectors.specs.Vectors.{figure_at}
use Rattle.shading.specs.Shading.{largest_size, size_step}

pub step_most : (most size : ℕ) → size ≤ most → size_step most size ≤ 5
unfolding size_step
step_most most size h =
    let f : 6 * size < 6 * (most + 1) = omega arith in
    omega (arith, (div-lt_iff_lt-mul {k = most + 1} {x = 6 * size} {y = 6} (omega arith)).1 f)

-- the largest is at least each
pub largest_least : (f : ℕ → ℕ) (n i : ℕ) → i < n → f i ≤ largest f n
unfolding largest
largest_least f zero i h = absurd (not-suc-le-zero h)
largest_least f (suc n) i h = go (ℕ_discrete i n) (λ l. largest_least f n i l)
  where
    go : Dec (i ≡ n) → (i < n → f i ≤ largest f n) → f i ≤ max (largest f n) (f n)
    go (yes e) before = rw e (omega arith)
    go (no e) before = omega (arith, before (omega arith))

pub size_least : (start n : ℕ) (xs : List ℤ) (m : ℕ) → m < n → nat_abs (figure_at xs (start + m)) ≤ largest_size start n xs
unfolding largest_size
size_least start n xs m h = largest_least (λ i. nat_abs (figure_at xs (start + i))) n m h

pub size_most : (b start n : ℕ) (xs : List ℤ) → Sized b start n xs → largest_size start n xs ≤ b
unfolding largest_size
size_most b start n xs small = largest_most (λ i. nat_abs (figure_at xs (start + i))) b n small
