-- How near provisions and ULAE reserves are proved to be, as the report shows it, in hundredths: document 01's allowances, with the tail payment's of request 3 of document 02.
-- That they are the third demand's: proofs/Demanded.antt. Assumes nothing.
use Rattle.std.specs.Prelude.{ℕ, ◌+◌, ◌*◌, ◌/◌, List, ℤ, pos, nat_abs}
use Rattle.rules.specs.Lists.{up_to}
use Rattle.vectors.specs.Vectors.{figure_at}

-- of the provision of origin year i with n claims: n × (5 × (k − j + 1) + 2) + 100 for each of its payments, where k − j + 1 runs from 1 to i, and n + 100 for its tail payment
unfoldable pub allowance : ℕ → ℕ → ℕ
allowance n i = n * (5 * (i * (i + 1) / 2) + 2 * i + 1) + 100 * (i + 1)

-- of the origin years 0 to k, whose numbers of claims stand from place x on, with so many hundredths more: 300 for a ULAE reserve
unfoldable pub allowances : ℕ → ℕ → ℕ → List ℤ → List ℤ
allowances more k x xs = up_to (λ i. pos (allowance (nat_abs (figure_at xs (x + i))) i + more)) (k + 1)
