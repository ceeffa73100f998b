-- Sections of the report's figures that are taken from triangles past the diagonal, from sections before them in the array xs. Assumes nothing.
use Rattle.std.specs.Prelude.{ℕ, zero, suc, ◌+◌, ◌-◌, List, ℤ, ◌+ℤ◌}
use Rattle.rules.specs.Lists.{up_to}
use Rattle.rules.specs.Triangle.{sum_to, future_start}
use Rattle.vectors.specs.Vectors.{figure_at}

-- where the chain ladder's ultimate of each origin year stands: the last of its completed cumulatives, which stand by row from place c on; of year 0 what is paid, at place p
unfoldable pub ultimate_place : ℕ → ℕ → ℕ → ℕ
ultimate_place p c zero = p
ultimate_place p c (suc i) = c + (future_start (suc i) + i)

unfoldable pub ladder_ultimates : ℕ → ℕ → ℕ → List ℤ → List ℤ
ladder_ultimates k p c xs = up_to (λ i. figure_at xs (ultimate_place p c i)) (k + 1)

-- the payments expected in the year k + 1 + t: the completed ones of that payment year, by row from place y on, and the tail payment of origin year t, from place z on
unfoldable pub expected_payments : ℕ → ℕ → ℕ → List ℤ → ℕ → ℤ
expected_payments k y z xs t = sum_to (λ m. figure_at xs (y + (future_start (suc (t + m)) + t))) (k - t) +ℤ figure_at xs (z + t)

unfoldable pub expected : ℕ → ℕ → ℕ → List ℤ → List ℤ
expected k y z xs = up_to (expected_payments k y z xs) (k + 1)
