-- How large figures are that are worked out from others. Assumes nothing.
use Prim.Native.Nat.{ℕ, ◌+◌, ◌-◌, ◌*◌, ◌≤◌, ◌<◌, zero-le}
use native.Mathlib.Nat.{le_trans}
use native.Mathlib.Decide.{dec_lt}
use native.Mathlib.Omega.{arith}
use mathlib.Core.Path.{◌≡◌}
use mathlib.Core.Bool.{Bool, true, false}
use mathlib.Core.List.{List}
use lib.IntN.{ℤ, pos, nat_abs, ◌+ℤ◌, ◌-ℤ◌}
use lib.ListN.{length, get_or}
use lib.Seq.{sets}
use Rattle.rules.specs.Lists.{up_to}
use Rattle.laws.proofs.Lists.{length_up_to}
use Rattle.laws.proofs.Joined.{up_to_all}
use Rattle.laws.proofs.Signed.{sum_size_lem}
use Rattle.signed_sums.specs.Small.{Sized}
use Rattle.signed_sums.proofs.Sums.{difference_size}
use Rattle.vectors.specs.Vectors.{figure_at, combined, combined_all}
use Rattle.vectors.proofs.Before.{sized_stored}

-- a number of at most the size b
abbrev Most : ℕ → ℤ → Type 0
Most b z = nat_abs z ≤ b

combined_size : (less : Bool) (x y : ℤ) → nat_abs (combined less x y) ≤ nat_abs x + nat_abs y
unfolding combined
combined_size true x y = difference_size x y
combined_size false x y = sum_size_lem x y

-- sums and differences
pub sized_combined : (b c d : ℕ) (less : Bool) (x y n : ℕ) (xs : List ℤ) (at : ℕ) → b + c ≤ d → at + n ≤ length xs → Sized b x n xs → Sized c y n xs
    → Sized d at n (sets xs at (combined_all less x y n xs))
unfolding combined_all
sized_combined b c d less x y n xs at h l small other =
    let f : ℕ → ℤ = λ i. combined less (figure_at xs (x + i)) (figure_at xs (y + i)) in
    sized_stored d xs at (up_to f n) n (length_up_to f n) l
    (up_to_all (Most d) (pos 0) zero-le f n (λ i k. omega (arith, combined_size less (figure_at xs (x + i)) (figure_at xs (y + i)), small i k, other i k)))

-- one section more
pub sized_more : (b m n : ℕ) (xs : List ℤ) → Sized b 0 m xs → Sized b m n xs → Sized b 0 (m + n) xs
sized_more b m n xs small more i h = go (dec_lt i m)
  where
    go : Dec (i < m) → nat_abs (figure_at xs (0 + i)) ≤ b
    go (yes l) = small i l
    go (no l) =
        let e : 0 + i ≡ m + (i - m) = omega arith in
        rw e (more (i - m) (omega arith))
