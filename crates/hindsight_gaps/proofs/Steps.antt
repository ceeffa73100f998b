-- The gaps of a step by its fit are those of the rule: zeros where it is marked, and otherwise by the shares and the latest level that it has. Assumes nothing.
use Prim.Native.Nat.{ℕ, zero, suc, ◌+◌, ◌-◌, ◌*◌, ◌/◌, ◌≤◌}
use native.Mathlib.Nat.{mul-le-mul}
use native.Mathlib.Omega.{arith}
use mathlib.Core.Path.{◌≡◌, refl, sym, ap, ap₂, ◌∙◌}
use mathlib.Core.List.{List, ◌∷◌, map}
use lib.IntN.{ℤ, pos, nat_abs, ◌-ℤ◌}
use lib.ListN.{length, get_or, take, replicate, length-replicate}
use Rattle.rules.specs.Lists.{total, up_to}
use Rattle.rules.specs.Questions.{after_call}
use Rattle.rules.specs.Record.{million, most_index}
use Rattle.rules.specs.Triangle.{paid_of}
use Rattle.rules.specs.Separation.{billion}
use Rattle.rules.specs.Completion.{future_level, payment_of}
use Rattle.rules.specs.Hindsight.{step_mark, forecast, gap_of, step_gaps, step_entries}
use Rattle.laws.proofs.Lists.{length_up_to, up_to_ext}
use Rattle.laws.proofs.Questions.{after_refusal}
use Rattle.hindsight_gaps.specs.Fitted.{Fitted, gap_with}

-- the first n of more zeros
pub take_zeros : (n m : ℕ) → n ≤ m → take n (replicate m (pos 0)) ≡ replicate n (pos 0)
take_zeros zero m h = refl
take_zeros (suc n) zero h = absurd (omega arith)
take_zeros (suc n) (suc m) h = ap {B = List ℤ} (λ r. pos 0 ∷ r) (take_zeros n m (omega arith))

-- zeros add up to zero
pub zeros_sum : (n : ℕ) → total (map nat_abs (replicate n (pos 0))) ≡ 0
unfolding total
zeros_sum zero = refl
zeros_sum (suc n) = omega (arith, zeros_sum n)

-- the future level of a trial index is at most 5 × S
pub level_most : (d e : ℕ) → d ≤ billion → e ≤ most_index → d * e / million ≤ 5 * billion
level_most d e h l = omega (arith, mul-le-mul h l)

module _ (k : ℕ) (n : List ℕ) (p : List ℤ) (h mark level : ℕ) (shares : List ℕ) (fit : Fitted k n p h mark level shares) (e : ℕ) where
  module _ (no : mark ≡ 0 → ⊥) where
    pub marked_gaps : step_gaps k n p h e ≡ replicate h (pos 0)
    unfolding step_gaps
    marked_gaps = after_refusal (step_mark k n p h) (up_to (λ m. gap_of k n p h e (m + 1)) h) (replicate h (pos 0)) (λ z. no (fit.marked ∙ z))

    pub marked_sum : 0 ≡ total (map nat_abs (step_gaps k n p h e))
    marked_sum = rw marked_gaps (sym (zeros_sum h))

  pub fitted_gaps : mark ≡ 0 → up_to (λ m. gap_with k n p shares (level * e / million) h (m + 1)) h ≡ step_gaps k n p h e
  unfolding step_gaps after_call gap_of gap_with forecast future_level
  fitted_gaps z =
      let none : step_mark k n p h ≡ 0 = sym fit.marked ∙ z in
      rw none
      (up_to_ext _ _ h (λ m l. rw (fit.share z (h + 1 - (m + 1)) (omega arith), fit.latest z)))

-- a mark and h gaps
gaps_length : (k : ℕ) (n : List ℕ) (p : List ℤ) (h e c : ℕ) → length (after_call c (up_to (λ m. gap_of k n p h e (m + 1)) h) (replicate h (pos 0))) ≡ h
unfolding after_call
gaps_length k n p h e zero = length_up_to (λ m. gap_of k n p h e (m + 1)) h
gaps_length k n p h e (suc c) = length-replicate {A = ℤ} h (pos 0)

pub step_length : (k : ℕ) (n : List ℕ) (p : List ℤ) (e h : ℕ) → length (step_entries k n p e h) ≡ 1 + h
unfolding step_entries step_gaps
step_length k n p e h = omega (arith, gaps_length k n p h e (step_mark k n p h))
