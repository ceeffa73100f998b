-- Averages and sums (document 01, with the halves of request 4 of document 02 and the pass by row of request 2): the cumulatives and averages of a triangle of
-- increments, the averages in a square of sixteen rows of sixteen, and the totals over it. Question 6. Assumes nothing.
use Rattle.std.specs.Prelude.{ℕ, zero, suc, ◌+◌, ◌-◌, ◌*◌, ◌/◌, ◌%◌, ◌<◌, ◌≡◌, Bool, true, ◌&&◌, ◌||◌, cond, List, [], eqb, ltb, leb, ℤ, pos, nat_abs, ◌+ℤ◌, get_or, replicate}
use Rattle.std.specs.Int.Signed.{le_z}
use Rattle.rules.specs.Lists.{up_to, below, padded, every}
use Rattle.rules.specs.Record.{signed_of, sign_of}

-- where row i starts among the cells by row: row h has the cells with j from 0 to k − h
unfoldable pub row_start : ℕ → ℕ → ℕ
row_start k zero = 0
row_start k (suc i) = row_start k i + (k + 1 - i)

-- where row i starts among the cells past the diagonal by row: row h has the h cells with j from k − h + 1 to k
unfoldable pub future_start : ℕ → ℕ
future_start zero = 0
future_start (suc i) = future_start i + i

-- the paid increment P_ij of the years 0 to k, i + j at most k, p the increments by row
unfoldable pub paid_of : ℕ → List ℤ → ℕ → ℕ → ℤ
paid_of k p i j = get_or p (row_start k i + j) (pos 0)

-- f 0 + .. + f (n − 1)
unfoldable pub sum_to : (ℕ → ℤ) → ℕ → ℤ
sum_to f zero = pos 0
sum_to f (suc n) = sum_to f n +ℤ f n

-- the cumulative C_ij, i + j at most k
unfoldable pub cumulative_of : ℕ → List ℤ → ℕ → ℕ → ℤ
cumulative_of k p i j = sum_to (paid_of k p i) (suc j)

-- the most of a cumulative, 10^11
abbrev pub most_cumulative : ℕ
most_cumulative = 100000000000

-- whether every given C of row i is from 0 to 10^11
unfoldable pub row_passes : ℕ → List ℤ → ℕ → Bool
row_passes k p i = every (λ j. le_z (pos 0) (cumulative_of k p i j) && le_z (cumulative_of k p i j) (pos most_cumulative)) (below (k + 1 - i))

-- 6. Is every given C from 0 to 10^11?
unfoldable pub cumulatives_pass : ℕ → List ℤ → Bool
cumulatives_pass k p = every (row_passes k p) (below (k + 1))

-- the given C_ij as a whole number, which it is once question 6 says yes, and the paid cumulative of row i, its last
unfoldable pub given_cumulative : ℕ → List ℤ → ℕ → ℕ → ℕ
given_cumulative k p i j = nat_abs (cumulative_of k p i j)

unfoldable pub paid_to : ℕ → List ℤ → ℕ → ℕ
paid_to k p i = given_cumulative k p i (k - i)

-- a whole number and a rest of n-ths, to the nearest whole, halves to the even neighbour: one more where the rest is above a half, or is a half and the
-- whole number is odd
unfoldable pub evenly : ℕ → ℕ → ℕ → ℕ
evenly n whole rest = cond (ltb n (2 * rest) || (eqb (2 * rest) n && eqb (whole % 2) 1)) (whole + 1) whole

-- 100 × a / n to the nearest whole, halves to the even neighbour; that no other number is so nearest: rules/proofs/Nearest.antt
unfoldable pub nearest : ℕ → ℕ → ℕ
nearest a n = evenly n (100 * a / n) (100 * a % n)

-- the average: 100 × p / n to the nearest whole hundredth, halves to the even neighbour, for negative amounts too, and zero stays zero
unfoldable pub average_of : ℤ → ℕ → ℤ
average_of p n = signed_of (sign_of p) (nearest (nat_abs p) n)

-- row i of the averages s_ij, j from 0 to k − i, zero past them; n the exposures
unfoldable pub average_row : ℕ → List ℕ → List ℤ → ℕ → List ℤ
average_row k n p i = padded 16 (pos 0) (up_to (λ j. average_of (paid_of k p i j) (get_or n i 0)) (k + 1 - i))

-- the averages in a square of sixteen rows of sixteen, zero outside the triangle
unfoldable pub averages_of : ℕ → List ℕ → List ℤ → List (List ℤ)
averages_of k n p = padded 16 (replicate 16 (pos 0)) (up_to (average_row k n p) (k + 1))

-- the cell in row i and column j of a square; zero outside of it
unfoldable pub cell_of : List (List ℤ) → ℕ → ℕ → ℤ
cell_of s i j = get_or (get_or s i []) j (pos 0)

-- a square that is zero outside the triangle of the years 0 to k
abbrev pub ZeroOutside : List (List ℤ) → ℕ → Type 0
ZeroOutside s k = (i j : ℕ) → k < i + j → cell_of s i j ≡ pos 0

-- the total of the cells whose row and column pass a test
unfoldable pub cells_total : (ℕ → ℕ → Bool) → List (List ℤ) → ℤ
cells_total p s = sum_to (λ i. sum_to (λ j. cond (p i j) (cell_of s i j) (pos 0)) 16) 16

-- v_j, the total of column j
unfoldable pub column_total : List (List ℤ) → ℕ → ℤ
column_total s c = cells_total (λ i j. eqb j c) s

-- d_h, the total of the cells with i + j = h
unfoldable pub diagonal_total : List (List ℤ) → ℕ → ℤ
diagonal_total s h = cells_total (λ i j. eqb (i + j) h) s

-- v and d are the totals of the columns and of the diagonals of s
abbrev pub TotalsIn : List (List ℤ) → List ℤ → List ℤ → Type 0
TotalsIn s v d = (v ≡ up_to (column_total s) 16) × (d ≡ up_to (diagonal_total s) 16)

-- the square as far as a pass by row has come: the cells of the rows before i and the first m cells of row i, every other cell counted as zero
unfoldable pub so_far : List (List ℤ) → ℕ → ℕ → List (List ℤ)
so_far s i m = up_to (λ r. up_to (λ c. cond (ltb r i || (eqb r i && ltb c m)) (cell_of s r c) (pos 0)) 16) 16

-- v and d are the totals of the cells passed so far: of the rows before i and the first m cells of row i
abbrev pub TotalsSoFar : List (List ℤ) → ℕ → ℕ → List ℤ → List ℤ → Type 0
TotalsSoFar s i m v d = TotalsIn (so_far s i m) v d

-- after the cell in row i and column j: for every square with this cell, where v and d were the totals of the cells before it, w and e are those of the cells
-- passed so far
abbrev pub CellPassed : ℤ → ℕ → ℕ → List ℤ → List ℤ → List ℤ → List ℤ → Type 0
CellPassed cell i j v d w e = (s : List (List ℤ)) → cell_of s i j ≡ cell → TotalsSoFar s i j v d → TotalsSoFar s i (j + 1) w e

-- T_h, the total of the cells with column at most h and diagonal at least h
unfoldable pub corner_total : List (List ℤ) → ℕ → ℤ
corner_total s h = cells_total (λ i j. leb j h && leb h (i + j)) s

-- the total of averages
unfoldable pub all_total : List (List ℤ) → ℤ
all_total s = cells_total (λ i j. true) s
