-- What the report says is proved, in the words of the third demand, of the array xs of the report's figures: which allowances stand beside the amounts, that each amount is within its allowance of every
-- exact solution carried on unrounded, and which sums are the same. Assumes nothing.
use Rattle.std.specs.Prelude.{ℕ, ◌+◌, ◌*◌, ◌≤◌, ◌<◌, ◌≡◌, List, ℤ, pos, nat_abs, ◌+ℤ◌, ◌-ℤ◌, ◌*ℤ◌, get_or}
use Rattle.rules.specs.Lists.{total, up_to}
use Rattle.rules.specs.Record.{Figures, million}
use Rattle.rules.specs.Triangle.{paid_to, sum_to, column_total, diagonal_total}
use Rattle.rules.specs.Separation.{diagonal_of}
use Rattle.rules.specs.Exact.{Solves}
use Rattle.rules.specs.Results.{ratio_section, result_count}
use Rattle.rules.specs.Demand.{printed, printed_square, exact_tail, tail_over, exact_provision, provision_over, exact_reserve, reserve_over, tail_allowance, provision_allowance, reserve_allowance, Within}
use Rattle.listing.specs.Starts.{starts_of}
use Rattle.vectors.specs.Vectors.{figure_at}
use Rattle.figure_places.specs.Places.{added_at}

-- the size of the figure at place p; the sum of n figures from place a on, and its size
abbrev pub size_at : List ℤ → ℕ → ℕ
size_at xs p = nat_abs (figure_at xs p)

abbrev pub sum_at : List ℤ → ℕ → ℕ → ℤ
sum_at xs a n = sum_to (λ i. figure_at xs (a + i)) n

abbrev pub sum_size : List ℤ → ℕ → ℕ → ℕ
sum_size xs a n = nat_abs (sum_at xs a n)

-- the latest diagonal d_k of the printed averages
abbrev pub latest_of : Figures → List ℤ → ℕ
latest_of f list = diagonal_of (printed_square f.k list) f.k

-- the ultimate, what is paid and the exact provision, over the provision's denominator
unfoldable pub exact_ultimate : Figures → ℕ → ℕ → (ℕ → ℤ) → ℕ → ℤ
exact_ultimate f d D x i = pos (paid_to f.k f.increments i * provision_over f D) +ℤ exact_provision f d D x i

-- provisions and ULAE reserves of all origin years together, with the ratio p as printed, over the reserve's denominator, which is the provision's times M × M × M
unfoldable pub exact_both : Figures → ℕ → ℕ → (ℕ → ℤ) → ℕ → ℤ
exact_both f d D x p =
    (pos (million * (million * million)) *ℤ sum_to (exact_provision f d D x) (f.k + 1)) +ℤ sum_to (exact_reserve f d D x p) (f.k + 1)

-- where the amounts come from: the result list stands first, and nothing of it after the averages is below zero; what is paid is that of the figures f, and an ultimate is what is paid and the provision
pub record Amounts (f : Figures) (list xs : List ℤ) : Type 0 where
  pub results : (p : ℕ) → p < result_count f.k → figure_at xs p ≡ get_or list p (pos 0)
  pub nonnegative : (p : ℕ) → (starts_of f.k).shares ≤ p → p < result_count f.k → figure_at xs p ≡ pos (size_at xs p)
  pub paid : (i : ℕ) → i ≤ f.k → figure_at xs ((added_at f.k).paid + i) ≡ pos (paid_to f.k f.increments i)
  pub ultimates : (i : ℕ) → i ≤ f.k
      → figure_at xs ((added_at f.k).ultimates + i) ≡ pos (paid_to f.k f.increments i + size_at xs ((starts_of f.k).provisions + i))

-- the allowances are the third demand's, in hundredths: of provision i and of ULAE reserve i; of their totals, as sums; and of all tail payments, the claims and 100 a year
pub record Allowed (f : Figures) (xs : List ℤ) : Type 0 where
  pub provisions : (i : ℕ) → i ≤ f.k → figure_at xs ((added_at f.k).allowances + i) ≡ pos (provision_allowance f i)
  pub reserves : (i : ℕ) → i ≤ f.k → figure_at xs ((added_at f.k).margins + i) ≡ pos (reserve_allowance f i)
  pub provision_total : sum_at xs (added_at f.k).allowances (f.k + 1) ≡ pos (total (up_to (provision_allowance f) (f.k + 1)))
  pub reserve_total : sum_at xs (added_at f.k).margins (f.k + 1) ≡ pos (total (up_to (reserve_allowance f) (f.k + 1)))
  pub tail_total : sum_at xs (added_at f.k).exposures (f.k + 1) +ℤ pos (100 * (f.k + 1)) ≡ pos (total (up_to (tail_allowance f) (f.k + 1)))

-- the amounts against one exact solution with the shares x / D, carried on unrounded: each is within the allowance that is shown beside it
pub record ShownWithin (f : Figures) (list xs : List ℤ) (D : ℕ) (x : ℕ → ℤ) : Type 0 where
  -- provisions, and ULAE reserves, by origin year and in total
  pub provisions : (i : ℕ) → i ≤ f.k
      → Within (size_at xs ((starts_of f.k).provisions + i)) (exact_provision f (latest_of f list) D x i) (provision_over f D) (size_at xs ((added_at f.k).allowances + i))
  pub provision_total : Within (size_at xs (starts_of f.k).provision) (sum_to (exact_provision f (latest_of f list) D x) (f.k + 1)) (provision_over f D)
      (sum_size xs (added_at f.k).allowances (f.k + 1))
  pub reserves : (i : ℕ) → i ≤ f.k
      → Within (size_at xs ((starts_of f.k).reserves + i)) (exact_reserve f (latest_of f list) D x (printed f.k list ratio_section 0) i) (reserve_over f D)
      (size_at xs ((added_at f.k).margins + i))
  pub reserve_total : Within (size_at xs (starts_of f.k).reserve) (sum_to (exact_reserve f (latest_of f list) D x (printed f.k list ratio_section 0)) (f.k + 1)) (reserve_over f D)
      (sum_size xs (added_at f.k).margins (f.k + 1))
  -- the tail payments of all origin years, unrounded but for t_0
  pub tail_total : Within (sum_size xs (starts_of f.k).tails (f.k + 1)) (sum_to (λ i. pos (exact_tail f i)) (f.k + 1)) (tail_over f)
      (sum_size xs (added_at f.k).exposures (f.k + 1) + 100 * (f.k + 1))
  -- ultimates, by origin year and in total, within the allowances of the provisions
  pub ultimates : (i : ℕ) → i ≤ f.k
      → Within (size_at xs ((added_at f.k).ultimates + i)) (exact_ultimate f (latest_of f list) D x i) (provision_over f D) (size_at xs ((added_at f.k).allowances + i))
  pub ultimate_total : Within (sum_size xs (added_at f.k).ultimates (f.k + 1)) (sum_to (exact_ultimate f (latest_of f list) D x) (f.k + 1)) (provision_over f D)
      (sum_size xs (added_at f.k).allowances (f.k + 1))
  -- provision and ULAE reserve together, in total
  pub both : Within (size_at xs (starts_of f.k).provision + size_at xs (starts_of f.k).reserve)
      (exact_both f (latest_of f list) D x (printed f.k list ratio_section 0)) (reserve_over f D)
      (sum_size xs (added_at f.k).allowances (f.k + 1) + sum_size xs (added_at f.k).margins (f.k + 1))

-- sums that are the same, of the years 0 to k
pub record Balanced (k : ℕ) (xs : List ℤ) : Type 0 where
  -- provisions, and ULAE reserves, add up to the list's totals
  pub provisions : sum_at xs (starts_of k).provisions (k + 1) ≡ figure_at xs (starts_of k).provision
  pub reserves : sum_at xs (starts_of k).reserves (k + 1) ≡ figure_at xs (starts_of k).reserve
  -- the payments expected by payment year add up to the total provision
  pub expected : sum_at xs (added_at k).expected (k + 1) ≡ figure_at xs (starts_of k).provision
  -- the ultimates add up to what is paid and the total provision
  pub ultimates : sum_at xs (added_at k).ultimates (k + 1) ≡ sum_at xs (added_at k).paid (k + 1) +ℤ figure_at xs (starts_of k).provision
  -- the difference of the two methods is that of the provisions, and those by origin year add up to that of the totals: of the provisions, and of the ultimates
  pub difference : (i : ℕ) → i ≤ k → figure_at xs ((added_at k).differences + i) ≡ figure_at xs ((starts_of k).provisions + i) -ℤ figure_at xs ((added_at k).remaining + i)
  pub differences : sum_at xs (added_at k).differences (k + 1) ≡ figure_at xs (starts_of k).provision -ℤ sum_at xs (added_at k).remaining (k + 1)
  pub ultimate_differences : sum_at xs (added_at k).differences (k + 1) ≡ sum_at xs (added_at k).ultimates (k + 1) -ℤ sum_at xs (added_at k).ladder (k + 1)

-- all of it, of the figures f of a record, the list of its run and the report's figures, against every exact solution for the totals of the printed averages
pub record ShownProved (f : Figures) (list xs : List ℤ) : Type 0 where
  pub amounts : Amounts f list xs
  pub allowed : Allowed f xs
  pub balanced : Balanced f.k xs
  pub within : (D E : ℕ) (x y : ℕ → ℤ) → Solves f.k D E (column_total (printed_square f.k list)) (diagonal_total (printed_square f.k list)) x y
      → ShownWithin f list xs D x
