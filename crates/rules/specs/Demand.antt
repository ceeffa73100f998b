-- The third demand (document 01, with the ratio of request 1 of document 02 and the tail payments of request 3), of the one list that an accepted run fills, and of every exact solution
-- carried on unrounded. Entries are found by their places in the list. Assumes nothing.
use Rattle.std.specs.Prelude.{ℕ, ◌+◌, ◌-◌, ◌*◌, ◌≤◌, ◌<◌, ◌≡◌, List, ℤ, pos, nat_abs, ◌+ℤ◌, ◌-ℤ◌, ◌*ℤ◌, get_or, replicate}
use Rattle.rules.specs.Lists.{total, up_to, padded}
use Rattle.rules.specs.Record.{Figures, million}
use Rattle.rules.specs.Triangle.{row_start, future_start, paid_to, sum_to, column_total, diagonal_total}
use Rattle.rules.specs.Separation.{diagonal_of}
use Rattle.rules.specs.Exact.{Solves, NearExact}
use Rattle.rules.specs.Expense.{reported_after}
use Rattle.rules.specs.Results.{average_section, share_section, level_section, payment_section, provision_section, provision_total_section, reserve_section, reserve_total_section, ratio_section, tail_section, section_count, section_start, first_tail_average_of}

-- entry j of section i of a result list of the years 0 to k, and its size
unfoldable pub entry_of : ℕ → List ℤ → ℕ → ℕ → ℤ
entry_of k list i j = get_or list (section_start k i + j) (pos 0)

unfoldable pub printed : ℕ → List ℤ → ℕ → ℕ → ℕ
printed k list i j = nat_abs (entry_of k list i j)

-- the printed averages as a square, section 0 of the list by row
unfoldable pub printed_square : ℕ → List ℤ → List (List ℤ)
printed_square k list =
    padded 16 (replicate 16 (pos 0)) (up_to (λ i. padded 16 (pos 0) (up_to (λ j. entry_of k list average_section (row_start k i + j)) (k + 1 - i))) (k + 1))

-- the exact solution's payment of a future cell, i + j = k + t: n_i × (x_j / D × d_k × e_t / M) / 100, as a numerator over D × M × 100
unfoldable pub exact_payment : Figures → ℕ → (ℕ → ℤ) → ℕ → ℕ → ℤ
exact_payment f d x i j = pos (get_or f.exposures i 0 * (d * get_or f.indices (i + j - f.k - 1) 0)) *ℤ x j

abbrev pub payment_over : ℕ → ℕ
payment_over D = D * (million * 100)

-- the index e_1
abbrev pub first_index : Figures → ℕ
first_index f = get_or f.indices 0 0

-- the tail payment unrounded, with t_0 as rounded: n_i × (t_0 × e_{i+1} / e_1) / 100, as a numerator over e_1 × 100
unfoldable pub exact_tail : Figures → ℕ → ℕ
exact_tail f i = get_or f.exposures i 0 * (first_tail_average_of f * get_or f.indices i 0)

abbrev pub tail_over : Figures → ℕ
tail_over f = first_index f * 100

-- the provision, its payments and its tail payment, over D × M × 100 × e_1
unfoldable pub exact_provision : Figures → ℕ → ℕ → (ℕ → ℤ) → ℕ → ℤ
exact_provision f d D x i = (pos (first_index f) *ℤ sum_to (λ m. exact_payment f d x i (f.k + 1 - i + m)) i) +ℤ pos (D * million * exact_tail f i)

abbrev pub provision_over : Figures → ℕ → ℕ
provision_over f D = payment_over D * first_index f

-- not yet reported, X_i × B_i / M, over D × M × 100 × e_1 × M
unfoldable pub exact_not_reported : Figures → ℕ → ℕ → (ℕ → ℤ) → ℕ → ℤ
exact_not_reported f d D x i = (pos (paid_to f.k f.increments i * provision_over f D) +ℤ exact_provision f d D x i) *ℤ pos (reported_after f.k f.reporting i)

-- (w × N_i + (M − w) × R_i) / M, over D × M × 100 × e_1 × M × M
unfoldable pub exact_weighted : Figures → ℕ → ℕ → (ℕ → ℤ) → ℕ → ℤ
exact_weighted f d D x i = (pos f.weight *ℤ exact_not_reported f d D x i) +ℤ (pos ((million - f.weight) * million) *ℤ exact_provision f d D x i)

-- the reserve, p × H_i / M with the ratio p as printed, over D × M × 100 × e_1 × M × M × M
unfoldable pub exact_reserve : Figures → ℕ → ℕ → (ℕ → ℤ) → ℕ → ℕ → ℤ
exact_reserve f d D x p i = pos p *ℤ exact_weighted f d D x i

abbrev pub reserve_over : Figures → ℕ → ℕ
reserve_over f D = provision_over f D * (million * (million * million))

-- the allowances, in hundredths: for a payment n_i × (5 × (k − j + 1) + 2) / 100 + 1; for a tail payment n_i / 100 + 1; for a provision the sum over its cells
-- and its tail payment; for a ULAE row its provision's allowance + 3
unfoldable pub payment_allowance : Figures → ℕ → ℕ → ℕ
payment_allowance f i j = get_or f.exposures i 0 * (5 * (f.k + 1 - j) + 2) + 100

unfoldable pub tail_allowance : Figures → ℕ → ℕ
tail_allowance f i = get_or f.exposures i 0 + 100

unfoldable pub provision_allowance : Figures → ℕ → ℕ
provision_allowance f i = total (up_to (λ m. payment_allowance f i (f.k + 1 - i + m)) i) + tail_allowance f i

unfoldable pub reserve_allowance : Figures → ℕ → ℕ
reserve_allowance f i = provision_allowance f i + 300

-- a printed number is within an allowance, in hundredths, of the fraction z / over
abbrev pub Within : ℕ → ℤ → ℕ → ℕ → Type 0
Within x z over allowance = 100 * nat_abs (pos (x * over) -ℤ z) ≤ allowance * over

-- the list against one exact solution with the shares x / D, carried on unrounded
pub record Carried (f : Figures) (list : List ℤ) (D : ℕ) (x : ℕ → ℤ) : Type 0 where
  pub payments : (i j : ℕ) → i ≤ f.k → j ≤ f.k → f.k < i + j
      → Within (printed f.k list payment_section (future_start i + (i + j - f.k - 1))) (exact_payment f (diagonal_of (printed_square f.k list) f.k) x i j) (payment_over D)
      (payment_allowance f i j)
  pub tails : (i : ℕ) → i ≤ f.k → Within (printed f.k list tail_section i) (pos (exact_tail f i)) (tail_over f) (tail_allowance f i)
  pub provisions : (i : ℕ) → i ≤ f.k
      → Within (printed f.k list provision_section i) (exact_provision f (diagonal_of (printed_square f.k list) f.k) D x i) (provision_over f D) (provision_allowance f i)
  pub provision_total : Within (printed f.k list provision_total_section 0) (sum_to (exact_provision f (diagonal_of (printed_square f.k list) f.k) D x) (f.k + 1)) (provision_over f D)
      (total (up_to (provision_allowance f) (f.k + 1)))
  pub reserves : (i : ℕ) → i ≤ f.k
      → Within (printed f.k list reserve_section i) (exact_reserve f (diagonal_of (printed_square f.k list) f.k) D x (printed f.k list ratio_section 0) i) (reserve_over f D)
      (reserve_allowance f i)
  pub reserve_total : Within (printed f.k list reserve_total_section 0)
      (sum_to (exact_reserve f (diagonal_of (printed_square f.k list) f.k) D x (printed f.k list ratio_section 0)) (f.k + 1)) (reserve_over f D)
      (total (up_to (reserve_allowance f) (f.k + 1)))

-- the whole third demand, of the figures f and the list that their run fills in any valuation year. That its averages and its ratio are those of the figures and
-- the year is what `run_into` says of the same list; d_k is not below zero, by `diagonal_above`
pub record ThirdDemand (f : Figures) (list : List ℤ) : Type 0 where
  -- no entry after the averages is below zero
  pub nonnegative : (i : ℕ) → section_start f.k share_section ≤ i → i < section_start f.k section_count → get_or list i (pos 0) ≡ pos (nat_abs (get_or list i (pos 0)))
  -- e_1 is at least 1, so that no fraction with it is over 0
  pub first_index : 1 ≤ first_index f
  -- shares and levels, against the totals of the printed averages and against every exact solution
  pub near : NearExact f.k (column_total (printed_square f.k list)) (diagonal_total (printed_square f.k list)) (printed f.k list share_section) (printed f.k list level_section)
  -- payments, tail payments, provisions, reserves and their totals, against every exact solution carried on unrounded
  pub carried : (D E : ℕ) (x y : ℕ → ℤ) → Solves f.k D E (column_total (printed_square f.k list)) (diagonal_total (printed_square f.k list)) x y
      → Carried f list D x
