-- The year of which question 7 or 13 says no: the first of its parts that does not hold (document 01, "Questions in their order"). Assumes nothing.
use Rattle.std.specs.Prelude.{ℕ, ◌+◌, ℤ, pos}
use Rattle.std.specs.Int.Signed.{le_z}
use Rattle.rules.specs.Ladder.{factor_passes}
use Rattle.entries.specs.Leading.{leading}

-- the first of the years 0 to k whose total is below 0; k + 1 where there is none
unfoldable pub first_below : (ℕ → ℤ) → ℕ → ℕ
first_below v k = leading (λ i. le_z (pos 0) (v i)) (k + 1)

-- the first of the development years 0 to k − 1 of which question 13 says no, k where there is none; a and b are the sums A and B of each
unfoldable pub first_refused : (ℕ → ℕ) → (ℕ → ℕ) → ℕ → ℕ
first_refused a b k = leading (λ h. factor_passes (a h) (b h)) k
