-- Every entry of an accepted run's list is at most 10^14 in size. Assumes nothing.
use Prim.Native.Nat.{ℕ, zero, suc, ◌+◌, ◌-◌, ◌*◌, ◌≤◌, ◌<◌, zero-le}
use native.Mathlib.Nat.{le_trans, mul-le-mul}
use native.Mathlib.Decide.{dec_lt}
use native.Mathlib.Omega.{arith}
use borrow.Author.Tests.{leb-true}
use mathlib.Core.Path.{◌≡◌, refl, sym, ◌∙◌}
use mathlib.Core.Bool.{true}
use mathlib.Core.List.{List, [], ◌∷◌, ◌++◌, map}
use lib.Dec.{leb}
use lib.IntN.{ℤ, pos, nat_abs}
use lib.ListN.{length, get_or, replicate, get_or-append, get_or-map, get_or-eq_default}
use Rattle.rules.specs.Lists.{total, up_to, padded, joined}
use Rattle.rules.specs.Record.{Figures, million}
use Rattle.rules.specs.Triangle.{most_cumulative, cell_of, averages_of}
use Rattle.rules.specs.Separation.{billion, share_of, level_of, levels_pass}
use Rattle.rules.specs.Tail.{tail_payments}
use Rattle.rules.specs.Completion.{most_ultimate, ultimates_pass, future_levels, payments, provision, provisions}
use Rattle.rules.specs.Expense.{not_reported, reserve}
use Rattle.rules.specs.Ladder.{developed, base, development_factors, most_factor, completed_all, completed_pass}
use Rattle.rules.specs.Results.{separation_sections, completion_sections, reserve_sections, ladder_sections, tail_sections, square_of, latest_diagonal_of, factors_in, first_tail_average_of, paid_in, levels_in, tails_in, provisions_in, development_in, used_ratio_in, sections, results_of}
use Rattle.rules.specs.Engine.{development_passes}
use Rattle.laws.proofs.Lists.{every_up_to, get_d_up_to}
use Rattle.laws.proofs.Joined.{append_all, up_to_all, joined_all}
use Rattle.laws.proofs.Totals.{total_each}
use Rattle.accuracy.proofs.Near.{share_most}
use Rattle.triangle.proofs.Square.{cells_bounded}
use Rattle.reading.specs.Reading.{Sound}
use Rattle.totals.proofs.TotalsMost.{latest_level}
use Rattle.expense.specs.Reservable.{Reservable}
use Rattle.expense.proofs.ReservesMost.{reserve_of_most, product_most, provision_most}
use Rattle.results.proofs.Limits.{ahead_most, ultimates_most, addable_payments, addable_tails, addable_provisions, factors_most, completed_most}

-- the most of an entry, 10^14
abbrev pub most_entry : ℕ
most_entry = 100000000000000

-- a list of entries of that size
abbrev pub Entries : List ℤ → Type 0
Entries xs = (i : ℕ) → nat_abs (get_or xs i (pos 0)) ≤ most_entry

-- sections one after another
pub sections_none : Entries (joined [])
unfolding joined
sections_none i = zero-le

pub sections_more : (xs : List ℤ) (xss : List (List ℤ)) → Entries xs → Entries (joined xss) → Entries (joined (xs ∷ xss))
unfolding joined
sections_more xs xss p q = append_all (λ (z : ℤ). nat_abs z ≤ most_entry) (pos 0) zero-le xs (joined xss) p q

-- numbers as entries
pub numbers_small : (xs : List ℕ) → ((i : ℕ) → get_or xs i 0 ≤ most_entry) → Entries (map pos xs)
numbers_small xs h i = rw (get_or-map pos xs i 0) (h i)

pub one_small : (x : ℕ) → x ≤ most_entry → Entries (pos x ∷ [])
one_small x h zero = h
one_small x h (suc i) = zero-le

-- a list in an array
pub unpadded : (b m : ℕ) (xs : List ℕ) → ((i : ℕ) → get_or (padded m 0 xs) i 0 ≤ b) → (i : ℕ) → get_or xs i 0 ≤ b
unfolding padded
unpadded b m xs h i = go (dec_lt i (length xs))
  where
    go : Dec (i < length xs) → get_or xs i 0 ≤ b
    go (yes l) = rw (get_or-append xs (replicate (m - length xs) 0) 0 i l) at (h i)
    go (no l) = rw (get_or-eq_default xs 0 {n = i} (omega arith)) zero-le

-- the sections of figures f in a valuation year
module _ (year : ℕ) (f : Figures) (sound : Sound f) (levels : levels_pass (square_of f) f.k ≡ true) (ultimates : ultimates_pass f.k (paid_in f) (provisions_in f) ≡ true)
    (ratio : used_ratio_in year f ≤ million) (development : development_passes f ≡ true)
    (completed : completed_pass (completed_all f.k (paid_in f) (development_in f)) ≡ true) where
  abbrev k : ℕ
  k = f.k

  -- averages
  averages_small : Entries (joined (up_to (λ i. up_to (cell_of (square_of f) i) (k + 1 - i)) (k + 1)))
  unfolding square_of
  averages_small =
      joined_all (λ (z : ℤ). nat_abs z ≤ most_entry) (pos 0) zero-le (λ i. up_to (cell_of (square_of f) i) (k + 1 - i)) (k + 1)
      (λ i j h.
      up_to_all (λ (z : ℤ). nat_abs z ≤ most_entry) (pos 0) zero-le (cell_of (square_of f) i) (k + 1 - i)
      (λ m l. le_trans (cells_bounded k f.exposures f.increments sound.few sound.exposures sound.increments i m) (omega arith)) j)

  -- shares and levels
  shares_small : (i : ℕ) → get_or (up_to (share_of (square_of f) k) (k + 1)) i 0 ≤ billion
  shares_small = up_to_all (λ (x : ℕ). x ≤ billion) 0 zero-le (share_of (square_of f) k) (k + 1) (λ i h. share_most (square_of f) k i)

  levels_small : (i : ℕ) → get_or (up_to (level_of (square_of f) k) (k + 1)) i 0 ≤ billion
  unfolding levels_pass
  levels_small =
      up_to_all (λ (x : ℕ). x ≤ billion) 0 zero-le (level_of (square_of f) k) (k + 1)
      (λ i h. leb-true (level_of (square_of f) k i) billion (every_up_to (λ h. leb (level_of (square_of f) k h) billion) (λ h. h) (k + 1) i levels h))

  -- the latest diagonal is the latest level
  latest_small : latest_diagonal_of f ≤ billion
  unfolding latest_diagonal_of levels_pass
  latest_small =
      rw (latest_level (square_of f) k) at (leb-true (level_of (square_of f) k k) billion (every_up_to (λ h. leb (level_of (square_of f) k h) billion) (λ h. h) (k + 1) k levels (omega arith)))

  ahead_small : (i : ℕ) → get_or (future_levels k (latest_diagonal_of f) f.indices) i 0 ≤ 5 * billion
  unfolding levels_in
  ahead_small = unpadded (5 * billion) 16 (future_levels k (latest_diagonal_of f) f.indices) (ahead_most f latest_small sound.indices)

  -- payments, provisions, tail payments
  payments_small : (i : ℕ) → get_or (payments k f.exposures (factors_in f).shares (levels_in f)) i 0 ≤ most_ultimate
  payments_small = unpadded most_ultimate 120 (payments k f.exposures (factors_in f).shares (levels_in f)) (addable_payments f ultimates)

  provisions_small : (i : ℕ) → get_or (provisions k f.exposures (factors_in f).shares (levels_in f) (tails_in f)) i 0 ≤ most_ultimate
  unfolding provisions_in
  provisions_small = unpadded most_ultimate 16 (provisions k f.exposures (factors_in f).shares (levels_in f) (tails_in f)) (addable_provisions f ultimates)

  tails_small : (i : ℕ) → get_or (tail_payments k f.exposures (first_tail_average_of f) f.indices) i 0 ≤ most_ultimate
  unfolding tails_in
  tails_small = unpadded most_ultimate 16 (tail_payments k f.exposures (first_tail_average_of f) f.indices) (addable_tails f ultimates)

  -- a total of sixteen
  total_small : (g : ℕ → ℕ) → ((i : ℕ) → i < k + 1 → g i ≤ most_ultimate) → total (up_to g (k + 1)) ≤ most_entry
  total_small g h = omega (arith, sound.few, total_each g most_ultimate (k + 1) h)

  provisions_total : total (provisions k f.exposures (factors_in f).shares (levels_in f) (tails_in f)) ≤ most_entry
  unfolding provisions
  provisions_total =
      let g = provision k f.exposures (factors_in f).shares (levels_in f) (tails_in f) in
      total_small g (λ i h. rw (get_d_up_to g (k + 1) i 0 h) at (provisions_small i))

  -- not reported, and ULAE reserves
  reservable : Reservable k (paid_in f) (provisions_in f) f.reporting f.weight (used_ratio_in year f)
  reservable = record { few = sound.few; ultimates = ultimates_most f ultimates; reporting = sound.reporting_sum; weight = sound.weight; ratio = ratio }

  unreported_small : (i : ℕ) → i < k + 1 → not_reported k f.reporting (paid_in f) (provisions_in f) i ≤ most_ultimate
  unfolding not_reported
  unreported_small i h = omega (arith, product_most k (paid_in f) (provisions_in f) f.reporting f.weight (used_ratio_in year f) reservable i (omega arith))

  reserve_small : (i : ℕ) → i < k + 1 → reserve k (used_ratio_in year f) f.weight f.reporting (paid_in f) (provisions_in f) i ≤ most_ultimate
  unfolding reserve
  reserve_small i h =
      reserve_of_most (used_ratio_in year f) f.weight (not_reported k f.reporting (paid_in f) (provisions_in f) i) (get_or (provisions_in f) i 0) ratio sound.weight (unreported_small i h)
      (provision_most k (paid_in f) (provisions_in f) f.reporting f.weight (used_ratio_in year f) reservable i (omega arith))

  -- development factors
  factors_small : (i : ℕ) → get_or (development_factors k (developed k f.increments) (base k f.increments)) i 0 ≤ most_factor
  unfolding development_in
  factors_small = unpadded most_factor 16 (development_factors k (developed k f.increments) (base k f.increments)) (factors_most f development)

  -- all of them
  numbers : (b : ℕ) (xs : List ℕ) → b ≤ most_entry → ((i : ℕ) → get_or xs i 0 ≤ b) → Entries (map pos xs)
  numbers b xs h small = numbers_small xs (λ i. le_trans (small i) h)

  listed : (b : ℕ) (g : ℕ → ℕ) → b ≤ most_entry → ((i : ℕ) → i < k + 1 → g i ≤ b) → Entries (map pos (up_to g (k + 1)))
  listed b g h small = numbers b (up_to g (k + 1)) h (up_to_all (λ (x : ℕ). x ≤ b) 0 zero-le g (k + 1) small)

  pub entries_small : Entries (results_of year f)
  unfolding results_of sections separation_sections completion_sections reserve_sections ladder_sections tail_sections provisions
  entries_small =
      sections_more _ _ averages_small
      (sections_more _ _ (numbers billion (up_to (share_of (square_of f) k) (k + 1)) (omega arith) shares_small)
      (sections_more _ _ (numbers billion (up_to (level_of (square_of f) k) (k + 1)) (omega arith) levels_small)
      (sections_more _ _ (numbers (5 * billion) (future_levels k (latest_diagonal_of f) f.indices) (omega arith) ahead_small)
      (sections_more _ _ (numbers most_ultimate (payments k f.exposures (factors_in f).shares (levels_in f)) (omega arith) payments_small)
      (sections_more _ _ (numbers most_ultimate (provisions k f.exposures (factors_in f).shares (levels_in f) (tails_in f)) (omega arith) provisions_small)
      (sections_more _ _ (one_small (total (provisions k f.exposures (factors_in f).shares (levels_in f) (tails_in f))) provisions_total)
      (sections_more _ _ (listed most_ultimate (not_reported k f.reporting (paid_in f) (provisions_in f)) (omega arith) unreported_small)
      (sections_more _ _ (listed most_ultimate (reserve k (used_ratio_in year f) f.weight f.reporting (paid_in f) (provisions_in f)) (omega arith) reserve_small)
      (sections_more _ _ (one_small (total (up_to (reserve k (used_ratio_in year f) f.weight f.reporting (paid_in f) (provisions_in f)) (k + 1))) (total_small _ reserve_small))
      (sections_more _ _ (one_small (used_ratio_in year f) (le_trans ratio (omega arith)))
      (sections_more _ _ (numbers most_factor (development_factors k (developed k f.increments) (base k f.increments)) (omega arith) factors_small)
      (sections_more _ _ (numbers most_cumulative (completed_all k (paid_in f) (development_in f)) (omega arith) (completed_most (completed_all k (paid_in f) (development_in f)) completed))
      (sections_more _ _ (numbers most_ultimate (tail_payments k f.exposures (first_tail_average_of f) f.indices) (omega arith) tails_small) sections_none)))))))))))))
