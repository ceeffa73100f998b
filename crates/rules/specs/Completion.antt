-- Completing the triangle (document 01): future levels, payments, provisions and ultimates, with the tail payments of request 3 of document 02. n are the
-- exposures, r the printed shares, d the latest diagonal d_k, e the indices, l the future levels, z the tail payments, c the paid cumulatives by row and q the
-- provisions. Question 11. Assumes nothing.
use Rattle.std.specs.Prelude.{ℕ, ◌+◌, ◌-◌, ◌*◌, ◌/◌, Bool, List, leb, get_or}
use Rattle.rules.specs.Lists.{total, up_to, below, joined, every}
use Rattle.rules.specs.Record.{million}
use Rattle.rules.specs.Separation.{billion}

-- the future level L_t = ⌊d_k × e_t / M⌋
unfoldable pub future_level : ℕ → ℕ → ℕ
future_level d e = d * e / million

-- L_1 to L_k; L_t stands at place t − 1, as e_t does
unfoldable pub future_levels : ℕ → ℕ → List ℕ → List ℕ
future_levels k d e = up_to (λ t. future_level d (get_or e t 0)) k

-- what n claims are paid in a cell with the share r at the level l: its unit c = ⌊r × l / S⌋ hundredths a claim, and y = ⌊n × c / 100⌋
unfoldable pub payment_of : ℕ → ℕ → ℕ → ℕ
payment_of n r l = n * (r * l / billion) / 100

-- the payment y_ij of a future cell, i + j = k + t
unfoldable pub payment : ℕ → List ℕ → List ℕ → List ℕ → ℕ → ℕ → ℕ
payment k n r l i j = payment_of (get_or n i 0) (get_or r j 0) (get_or l (i + j - k - 1) 0)

-- the payments of row i, j from k − i + 1 to k, and those of all rows
unfoldable pub payment_row : ℕ → List ℕ → List ℕ → List ℕ → ℕ → List ℕ
payment_row k n r l i = up_to (λ m. payment k n r l i (k + 1 - i + m)) i

unfoldable pub payments : ℕ → List ℕ → List ℕ → List ℕ → List ℕ
payments k n r l = joined (up_to (payment_row k n r l) (k + 1))

-- the provision R_i, the sum of row i's payments and its tail payment, and R_0 to R_k
unfoldable pub provision : ℕ → List ℕ → List ℕ → List ℕ → List ℕ → ℕ → ℕ
provision k n r l z i = total (payment_row k n r l i) + get_or z i 0

unfoldable pub provisions : ℕ → List ℕ → List ℕ → List ℕ → List ℕ → List ℕ
provisions k n r l z = up_to (provision k n r l z) (k + 1)

-- the ultimate X_i, the paid cumulative plus R_i
unfoldable pub ultimate : List ℕ → List ℕ → ℕ → ℕ
ultimate c q i = get_or c i 0 + get_or q i 0

-- the most of an ultimate, 10^12
abbrev pub most_ultimate : ℕ
most_ultimate = 1000000000000

-- 11. Is every X_i at most 10^12?
unfoldable pub ultimates_pass : ℕ → List ℕ → List ℕ → Bool
ultimates_pass k c q = every (λ i. leb (ultimate c q i) most_ultimate) (below (k + 1))
