-- Chain ladder (document 01): development factors, and the cumulatives completed by them. p are the increments, a and b the sums A and B of each
-- development year, c the paid cumulatives by row and m the development factors. Questions 13 and 14. Assumes nothing.
use Rattle.std.specs.Prelude.{ℕ, zero, suc, ◌+◌, ◌-◌, ◌*◌, ◌/◌, Bool, ◌&&◌, List, leb, ℤ, get_or}
use Rattle.rules.specs.Lists.{total, up_to, below, joined, every}
use Rattle.rules.specs.Record.{million}
use Rattle.rules.specs.Triangle.{given_cumulative, most_cumulative}

-- A and B of development year h, 004 (2) with upper limit k − h − 1: the sums of C_{i,h+1} and of C_ih over i from 0 to k − h − 1
unfoldable pub developed : ℕ → List ℤ → ℕ → ℕ
developed k p h = total (up_to (λ i. given_cumulative k p i (h + 1)) (k - h))

unfoldable pub base : ℕ → List ℤ → ℕ → ℕ
base k p h = total (up_to (λ i. given_cumulative k p i h) (k - h))

-- the development factor m_h = ⌊M × A / B⌋, once B is at least 1, and m_0 to m_{k−1}
unfoldable pub development_factor : ℕ → ℕ → ℕ
development_factor a b = million * a / b

unfoldable pub development_factors : ℕ → (ℕ → ℕ) → (ℕ → ℕ) → List ℕ
development_factors k a b = up_to (λ h. development_factor (a h) (b h)) k

-- the most of a development factor, 50 × M
abbrev pub most_factor : ℕ
most_factor = 50000000

-- whether a B is at least 1 and its m_h at most 50 × M
unfoldable pub factor_passes : ℕ → ℕ → Bool
factor_passes a b = leb 1 b && leb (development_factor a b) most_factor

-- 13. Is every chain-ladder B at least 1 and every m_h at most 50 × M?
unfoldable pub factors_pass : ℕ → (ℕ → ℕ) → (ℕ → ℕ) → Bool
factors_pass k a b = every (λ h. factor_passes (a h) (b h)) (below k)

-- the cumulative of row i, t years past the latest diagonal: C_{i,h+1} = ⌊C_ih × m_h / M⌋ for h ≥ k − i
unfoldable pub completed : ℕ → List ℕ → List ℕ → ℕ → ℕ → ℕ
completed k c m i zero = get_or c i 0
completed k c m i (suc t) = completed k c m i t * get_or m (k - i + t) 0 / million

-- the completed cumulatives of row i, those past the diagonal, and those of all rows
unfoldable pub completed_row : ℕ → List ℕ → List ℕ → ℕ → List ℕ
completed_row k c m i = up_to (λ t. completed k c m i (suc t)) i

unfoldable pub completed_all : ℕ → List ℕ → List ℕ → List ℕ
completed_all k c m = joined (up_to (completed_row k c m) (k + 1))

-- 14. Is every completed C at most 10^11?
unfoldable pub completed_pass : List ℕ → Bool
completed_pass all = every (λ x. leb x most_cumulative) all
