-- Signed numbers of which hundreds add up to less than 2^63. Assumes nothing.
use Rattle.std.specs.Prelude.{ℕ, ◌+◌, ◌*◌, ◌≤◌, ◌<◌, List, ℤ, pos, nat_abs, get_or}

-- the most of a figure of the report, 10^16, and of a sum of some, 10^18
abbrev pub most_figure : ℕ
most_figure = 10000000000000000

abbrev pub most_sum : ℕ
most_sum = 1000000000000000000

-- n entries from a place on, each some places after the one before, of at most the size b
abbrev pub SizedAlong : ℕ → ℕ → ℕ → ℕ → List ℤ → Type 0
SizedAlong b start stride n xs = (i : ℕ) → i < n → nat_abs (get_or xs (start + i * stride) (pos 0)) ≤ b

-- n entries from a place on, of at most the size b
abbrev pub Sized : ℕ → ℕ → ℕ → List ℤ → Type 0
Sized b a n xs = (i : ℕ) → i < n → nat_abs (get_or xs (a + i) (pos 0)) ≤ b

-- a number of the size of a sum
abbrev pub Summed : ℤ → Type 0
Summed z = nat_abs z ≤ most_sum
