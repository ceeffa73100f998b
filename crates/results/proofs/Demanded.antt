-- The third demand, of the list that an accepted run fills. Assumes nothing.
use Prim.Native.Nat.{ℕ, suc, ◌+◌, ◌-◌, ◌≤◌, ◌<◌}
use native.Mathlib.Omega.{arith}
use mathlib.Core.Path.{◌≡◌, ◌∙◌}
use mathlib.Core.Bool.{true, cond}
use mathlib.Core.List.{List, ◌++◌}
use lib.IntN.{ℤ}
use lib.ListN.{get_or}
use Rattle.rules.specs.Record.{Figures}
use Rattle.rules.specs.Triangle.{ZeroOutside, column_total, diagonal_total, paid_to}
use Rattle.rules.specs.Separation.{share_of, level_of, factors_of, totals_pass, rests_pass, running_pass}
use Rattle.rules.specs.Exact.{Solves, NearExact, from_to}
use Rattle.rules.specs.Tail.{tail_payment, tail_payments}
use Rattle.rules.specs.Completion.{future_level, future_levels, provision, provisions}
use Rattle.rules.specs.Expense.{paid_total, ulae_total, ratio_pass}
use Rattle.rules.specs.Growth.{corrects, corrected_ratio, corrected_ratio_passes}
use Rattle.rules.specs.Results.{share_section, level_section, square_of, latest_diagonal_of, factors_in, first_tail_average_of, paid_in, levels_in, tails_in, provisions_in, plain_ratio_in, divisor_in, used_ratio_in, results_of}
use Rattle.rules.specs.Demand.{printed, printed_square, Carried, ThirdDemand}
use Rattle.laws.proofs.Totals.{total_same}
use Rattle.laws.proofs.Padded.{filled_at}
use Rattle.totals.proofs.TotalsMost.{diagonal_most}
use Rattle.accuracy.proofs.Near.{near_exact, share_most}
use Rattle.totals.proofs.Square.{zero_outside}
use Rattle.allowance.proofs.Carried.{Basis, payment_near, tail_near, provision_near, provisions_near, reserve_near, reserves_near}
use Rattle.allowance.proofs.Rates.{Rates, ratio_most, used_most, reported_most}
use Rattle.reading.specs.Reading.{Sound}
use Rattle.results.proofs.Printed.{share_entry, level_entry, tail_entry, provision_entry, provisions_entry, reserve_entry, reserves_entry, ratio_entry, payment_entry, square_entry, nonnegative_entry}

-- the same shares and levels up to year k are as near
near_same : (k : ℕ) (v d : ℕ → ℤ) (r l r' l' : ℕ → ℕ) → ((j : ℕ) → j ≤ k → r' j ≡ r j) → ((j : ℕ) → j ≤ k → l' j ≡ l j) → NearExact k v d r l → NearExact k v d r' l'
near_same k v d r l r' l' er el n = record {
  whole = sums r r' er 0 k (omega arith) ∙ n.whole;
  diagonal_above = λ h le. rw (el h le, sums r r' er 0 h le) (n.diagonal_above h le);
  diagonal_below = λ h le. rw (el h le, sums r r' er 0 h le) (n.diagonal_below h le);
  column_near = λ j le. rw (er j le, sums l l' el j k (omega arith)) (n.column_near j le);
  solvable = n.solvable;
  share_near = λ D E x y s j le. rw (er j le) (n.share_near D E x y s j le);
}
  where
    sums : (g g' : ℕ → ℕ) → ((j : ℕ) → j ≤ k → g' j ≡ g j) → (a b : ℕ) → b ≤ k → from_to g' a b ≡ from_to g a b
    sums g g' e a b le = total_same (λ i. g' (a + i)) (λ i. g (a + i)) (suc b - a) (λ i h. e (a + i) (omega arith))

-- figures whose questions 7, 8, 9, 12 and 17 say yes
pub record Answered (year : ℕ) (f : Figures) : Type 0 where
  pub totals : totals_pass (square_of f) f.k ≡ true
  pub rests : rests_pass (square_of f) f.k ≡ true
  pub running : running_pass (square_of f) f.k ≡ true
  pub ratio : ratio_pass (paid_total f.k f.increments) (ulae_total f.k f.ulae) ≡ true
  pub corrected : cond (corrects year) (corrected_ratio_passes (corrected_ratio (plain_ratio_in f) (divisor_in f))) true ≡ true

-- the figures' arrays by place
module _ (f : Figures) where
  share_at_lem : (j : ℕ) → j ≤ f.k → get_or (factors_in f).shares j 0 ≡ share_of (square_of f) f.k j
  unfolding factors_in factors_of
  share_at_lem j h = filled_at 16 0 (share_of (square_of f) f.k) (f.k + 1) j 0 (omega arith)

  level_at : (t : ℕ) → t < f.k → get_or (levels_in f) t 0 ≡ future_level (latest_diagonal_of f) (get_or f.indices t 0)
  unfolding levels_in future_levels
  level_at t h = filled_at 16 0 (λ t. future_level (latest_diagonal_of f) (get_or f.indices t 0)) f.k t 0 h

  pub paid_at_lem : (i : ℕ) → i ≤ f.k → get_or (paid_in f) i 0 ≡ paid_to f.k f.increments i
  unfolding paid_in
  paid_at_lem i h = filled_at 16 0 (paid_to f.k f.increments) (f.k + 1) i 0 (omega arith)

  pub tail_at : (i : ℕ) → i ≤ f.k → get_or (tails_in f) i 0 ≡ tail_payment f.exposures (first_tail_average_of f) f.indices i
  unfolding tails_in tail_payments
  tail_at i h = filled_at 16 0 (tail_payment f.exposures (first_tail_average_of f) f.indices) (f.k + 1) i 0 (omega arith)

  pub provision_at_lem : (i : ℕ) → i ≤ f.k → get_or (provisions_in f) i 0 ≡ provision f.k f.exposures (factors_in f).shares (levels_in f) (tails_in f) i
  unfolding provisions_in provisions
  provision_at_lem i h = filled_at 16 0 (provision f.k f.exposures (factors_in f).shares (levels_in f) (tails_in f)) (f.k + 1) i 0 (omega arith)

module _ (year : ℕ) (f : Figures) (sound : Sound f) (yes : Answered year f) where
  outside : ZeroOutside (square_of f) f.k
  unfolding square_of
  outside = zero_outside f.k f.exposures f.increments sound.few

  exact : NearExact f.k (column_total (square_of f)) (diagonal_total (square_of f)) (share_of (square_of f) f.k) (level_of (square_of f) f.k)
  exact = near_exact (square_of f) f.k outside yes.totals yes.rests yes.running

  basis : (D E : ℕ) (x y : ℕ → ℤ) → Solves f.k D E (column_total (square_of f)) (diagonal_total (square_of f)) x y
      → Basis f (latest_diagonal_of f) (factors_in f).shares (levels_in f) (tails_in f) D x
  unfolding latest_diagonal_of
  basis D E x y s = record {
    latest = diagonal_most (square_of f) f.k sound.few outside yes.totals f.k (omega arith);
    indices = λ t h. sound.indices t;
    levels = level_at f;
    first = sound.first_index;
    tails = tail_at f;
    share_most = λ j h. rw (share_at_lem f j h) (share_most (square_of f) f.k j);
    share_near = λ j h. rw (share_at_lem f j h) (exact.share_near D E x y s j h);
  }

  rates : Rates f (used_ratio_in year f)
  unfolding plain_ratio_in used_ratio_in
  rates = record {
    reporting = reported_most f.k f.reporting sound.reporting_sum;
    weight = sound.weight;
    ratio = used_most year (plain_ratio_in f) (divisor_in f) (ratio_most (paid_total f.k f.increments) (ulae_total f.k f.ulae) yes.ratio) yes.corrected;
  }

  module _ (rest : List ℤ) where
    square : printed_square f.k (results_of year f ++ rest) ≡ square_of f
    square = square_entry year f rest sound.few

    carried : (D E : ℕ) (x y : ℕ → ℤ) → Solves f.k D E (column_total (square_of f)) (diagonal_total (square_of f)) x y → Carried f (results_of year f ++ rest) D x
    unfolding latest_diagonal_of
    carried D E x y s =
        let b = basis D E x y s in
        let d = latest_diagonal_of f in
        let r = (factors_in f).shares in
        let l = levels_in f in
        let z = tails_in f in
        let c = paid_in f in
        let q = provisions_in f in
        record {
          payments = λ i j hi hj h. rw (payment_entry year f rest i j hi hj h, square) (payment_near f d r l z D x b i j hi hj h);
          tails = λ i h. rw (tail_entry year f rest i h) (tail_near f d r l z D x b i h);
          provisions = λ i h. rw (provision_entry year f rest i h, square) (provision_near f d r l z D x b i h);
          provision_total = rw (provisions_entry year f rest, square) (provisions_near f d r l z D x b);
          reserves = λ i h. rw (reserve_entry year f rest i h, square, ratio_entry year f rest) (reserve_near f d r l z D x b c q (paid_at_lem f) (provision_at_lem f) (used_ratio_in year f) rates i h);
          reserve_total = rw (reserves_entry year f rest, square, ratio_entry year f rest) (reserves_near f d r l z D x b c q (paid_at_lem f) (provision_at_lem f) (used_ratio_in year f) rates);
        }

    -- the whole third demand
    pub third_demand : ThirdDemand f (results_of year f ++ rest)
    third_demand = record {
      nonnegative = λ i a b. nonnegative_entry year f rest i a b;
      first_index = sound.first_index;
      near =
          rw square
          (near_same f.k (column_total (square_of f)) (diagonal_total (square_of f)) (share_of (square_of f) f.k) (level_of (square_of f) f.k)
          (printed f.k (results_of year f ++ rest) share_section) (printed f.k (results_of year f ++ rest) level_section) (share_entry year f rest) (level_entry year f rest) exact);
      carried = λ D E x y s. carried D E x y (rw square at s);
    }
