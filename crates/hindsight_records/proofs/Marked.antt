-- Where every step is marked, every sum is 0, and the first setting is the best. Assumes nothing.
use Prim.Native.Nat.{ℕ, zero, suc, ◌+◌, ◌-◌, ◌≤◌, ◌<◌, zero-le}
use native.Mathlib.Omega.{arith}
use borrow.Author.Tests.{le-leb}
use mathlib.Core.Path.{◌≡◌, refl, ap, ap₂, ◌∙◌}
use mathlib.Core.Bool.{true, ◌&&◌}
use mathlib.Core.List.{List, [], ◌∷◌, map}
use lib.Dec.{leb}
use lib.IntN.{ℤ, pos, nat_abs}
use lib.ListN.{length, replicate}
use Rattle.rules.specs.Lists.{total, up_to, every}
use Rattle.rules.specs.Hindsight.{step_mark, step_gaps, gap_of, gap_sum, first_place, best_place}
use Rattle.laws.proofs.Questions.{after_refusal}
use Rattle.laws.proofs.Totals.{total_each}
use Rattle.hindsight_gaps.proofs.Steps.{zeros_sum}
use Rattle.hindsight_settings.proofs.Counts.{step_sum, sum_is}
use Rattle.hindsight_records.specs.Records.{AllMarked}

-- nothing is below 0
none_below : (xs : List ℕ) → every (leb 0) xs ≡ true
unfolding every
none_below [] = refl
none_below (x ∷ xs) = rw (le-leb 0 x zero-le) (none_below xs)

zeros_best : (c : ℕ) → best_place (replicate c 0) ≡ 0
unfolding best_place first_place
zeros_best zero = refl
zeros_best (suc c) = rw (none_below (replicate (suc c) 0)) refl

module _ (k : ℕ) (n : List ℕ) (p : List ℤ) (marked : (h : ℕ) → 1 ≤ h → h < k → step_mark k n p h ≡ 0 → ⊥) where
  step_none : (e h : ℕ) → 1 ≤ h → h < k → total (map nat_abs (step_gaps k n p h e)) ≡ 0
  unfolding step_gaps
  step_none e h some less = rw (after_refusal (step_mark k n p h) (up_to (λ m. gap_of k n p h e (m + 1)) h) (replicate h (pos 0)) (marked h some less)) (zeros_sum h)

  sum_none : (e : ℕ) → gap_sum k n p e ≡ 0
  sum_none e =
      let most = total_each (step_sum k n p e) 0 (k - 1) (λ m l. omega (arith, step_none e (k - 1 - m) (omega arith) (omega arith))) in
      omega (arith, sum_is k n p e, most)

  sums_none : (settings : List ℕ) → map (gap_sum k n p) settings ≡ replicate (length settings) 0
  sums_none [] = refl
  sums_none (e ∷ settings) = ap₂ {C = List ℕ} (λ (x : ℕ) (xs : List ℕ). x ∷ xs) (sum_none e) (sums_none settings)

pub all_marked : (k : ℕ) (n : List ℕ) (p : List ℤ) (settings : List ℕ) → AllMarked k n p settings
all_marked k n p settings marked =
    let none = sums_none k n p marked settings in
    (none, rw none (zeros_best (length settings)))
