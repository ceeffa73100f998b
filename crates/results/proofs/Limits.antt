-- The printed figures of accepted figures are at most 10^12, and the ULAE reserve's numbers within its limits. Assumes nothing.
use Prim.Native.Nat.{ℕ, ◌+◌, ◌-◌, ◌*◌, ◌≤◌, ◌<◌, zero-le}
use native.Mathlib.Nat.{le_trans, mul-le-mul}
use native.Mathlib.Decide.{dec_lt}
use native.Mathlib.Omega.{arith}
use borrow.Author.Tests.{leb-true}
use mathlib.Core.Path.{◌≡◌}
use mathlib.Core.Bool.{true}
use mathlib.Core.List.{List}
use lib.Dec.{leb}
use lib.ListN.{length, get_or, get_or-eq_default}
use Rattle.rules.specs.Lists.{up_to, padded, joined, every}
use Rattle.rules.specs.Record.{Figures, most_index}
use Rattle.rules.specs.Triangle.{most_cumulative}
use Rattle.rules.specs.Separation.{billion, share_of, level_of, levels_pass, factors_of}
use Rattle.rules.specs.Tail.{tail_payment, tail_payments}
use Rattle.rules.specs.Completion.{future_level, future_levels, payment, payment_row, payments, provision, provisions, ultimate, most_ultimate, ultimates_pass}
use Rattle.rules.specs.Ladder.{developed, base, development_factor, development_factors, most_factor, factor_passes, factors_pass, completed_pass}
use Rattle.rules.specs.Results.{square_of, latest_diagonal_of, factors_in, paid_in, levels_in, first_tail_average_of, tails_in, provisions_in, development_in}
use Rattle.laws.proofs.Lists.{every_up_to, every_at, both_right}
use Rattle.laws.proofs.Totals.{total_at}
use Rattle.laws.proofs.Joined.{up_to_all, joined_all, padded_all}
use Rattle.accuracy.proofs.Near.{share_most}
use Rattle.listing.specs.Starts.{Addable}
use Rattle.results.proofs.Demanded.{tail_at, provision_at_lem}

-- at most a limit
abbrev Most : ℕ → ℕ → Type 0
Most m x = x ≤ m

-- a list in an array, of which each entry is at most m
pub most_list : (m a n : ℕ) (g : ℕ → ℕ) → ((i : ℕ) → i < n → g i ≤ m) → (i : ℕ) → get_or (padded a 0 (up_to g n)) i 0 ≤ m
most_list m a n g h = padded_all (Most m) 0 zero-le a 0 zero-le (up_to g n) (up_to_all (Most m) 0 zero-le g n h)

-- each entry of a list of numbers up to a limit
all_at : (m : ℕ) (xs : List ℕ) → every (λ x. leb x m) xs ≡ true → (i : ℕ) → get_or xs i 0 ≤ m
all_at m xs q i = go (dec_lt i (length xs))
  where
    go : Dec (i < length xs) → get_or xs i 0 ≤ m
    go (yes l) = leb-true (get_or xs i 0) m (every_at (λ x. leb x m) xs i 0 l q)
    go (no l) = rw (get_or-eq_default xs 0 {n = i} (omega arith)) zero-le

module _ (f : Figures) where
  abbrev k : ℕ
  k = f.k

  abbrev r : List ℕ
  r = (factors_in f).shares

  -- shares and levels
  pub shares_most : (j : ℕ) → get_or (factors_in f).shares j 0 ≤ billion
  unfolding factors_in factors_of
  shares_most = most_list billion 16 (k + 1) (share_of (square_of f) k) (λ i h. share_most (square_of f) k i)

  pub levels_most : levels_pass (square_of f) f.k ≡ true → (j : ℕ) → get_or (factors_in f).levels j 0 ≤ billion
  unfolding factors_in factors_of levels_pass
  levels_most q =
      most_list billion 16 (k + 1) (level_of (square_of f) k)
      (λ i h. leb-true (level_of (square_of f) k i) billion (every_up_to (λ h. leb (level_of (square_of f) k h) billion) (λ h. h) (k + 1) i q h))

  -- future levels
  pub ahead_most : latest_diagonal_of f ≤ billion → ((t : ℕ) → get_or f.indices t 0 ≤ most_index) → (t : ℕ) → get_or (levels_in f) t 0 ≤ 5 * billion
  unfolding levels_in future_levels future_level
  ahead_most d e =
      most_list (5 * billion) 16 k (λ t. future_level (latest_diagonal_of f) (get_or f.indices t 0)) (λ t h. let p = mul-le-mul d (e t) in omega arith)

  -- ultimates, provisions and payments
  module _ (q11 : ultimates_pass f.k (paid_in f) (provisions_in f) ≡ true) where
    pub ultimates_most : (i : ℕ) → i ≤ f.k → ultimate (paid_in f) (provisions_in f) i ≤ most_ultimate
    unfolding ultimates_pass
    ultimates_most i h =
        leb-true (ultimate (paid_in f) (provisions_in f) i) most_ultimate (every_up_to (λ i. leb (ultimate (paid_in f) (provisions_in f) i) most_ultimate) (λ i. i) (k + 1) i q11 (omega arith))

    provision_most : (i : ℕ) → i ≤ f.k → provision f.k f.exposures (factors_in f).shares (levels_in f) (tails_in f) i ≤ most_ultimate
    unfolding ultimate
    provision_most i h = let u = ultimates_most i h in omega (arith, provision_at_lem f i h)

    payment_most : (i m : ℕ) → i ≤ f.k → get_or (payment_row f.k f.exposures (factors_in f).shares (levels_in f) i) m 0 ≤ most_ultimate
    unfolding provision payment_row
    payment_most i m h =
        let y : ℕ → ℕ = λ m. payment k f.exposures r (levels_in f) i (k + 1 - i + m) in
        up_to_all (Most most_ultimate) 0 zero-le y i (λ m l. let p = provision_most i h in omega (arith, total_at y i m l)) m

    pub addable_payments : Addable (padded 120 0 (payments f.k f.exposures (factors_in f).shares (levels_in f)))
    unfolding payments
    addable_payments =
        let row = payment_row k f.exposures r (levels_in f) in
        padded_all (Most most_ultimate) 0 zero-le 120 0 zero-le (joined (up_to row (k + 1)))
        (joined_all (Most most_ultimate) 0 zero-le row (k + 1) (λ i j h. payment_most i j (omega arith)))

    pub tail_most : (i : ℕ) → i ≤ f.k → tail_payment f.exposures (first_tail_average_of f) f.indices i ≤ most_ultimate
    unfolding provision
    tail_most i h = let p = provision_most i h in omega (arith, tail_at f i h)

    pub addable_tails : Addable (tails_in f)
    unfolding tails_in tail_payments
    addable_tails = most_list most_ultimate 16 (k + 1) (tail_payment f.exposures (first_tail_average_of f) f.indices) (λ i h. tail_most i (omega arith))

    pub addable_provisions : Addable (provisions_in f)
    unfolding provisions_in provisions
    addable_provisions = most_list most_ultimate 16 (k + 1) (provision k f.exposures r (levels_in f) (tails_in f)) (λ i h. provision_most i (omega arith))

  -- development factors
  pub factors_most : factors_pass f.k (developed f.k f.increments) (base f.k f.increments) ≡ true → (h : ℕ) → get_or (development_in f) h 0 ≤ most_factor
  unfolding factors_pass factor_passes development_in development_factors
  factors_most q =
      let a = developed k f.increments in
      let b = base k f.increments in
      most_list most_factor 16 k (λ h. development_factor (a h) (b h))
      (λ h l.
      leb-true (development_factor (a h) (b h)) most_factor
      (both_right (leb 1 (b h)) (leb (development_factor (a h) (b h)) most_factor) (every_up_to (λ h. factor_passes (a h) (b h)) (λ h. h) k h q l)))

-- completed cumulatives
pub completed_most : (all : List ℕ) → completed_pass all ≡ true → (i : ℕ) → get_or all i 0 ≤ most_cumulative
unfolding completed_pass
completed_most all q = all_at most_cumulative all q

pub addable_completed : (all : List ℕ) → completed_pass all ≡ true → Addable (padded 120 0 all)
addable_completed all q = padded_all (Most most_ultimate) 0 zero-le 120 0 zero-le all (λ i. le_trans (completed_most all q i) (omega arith))
