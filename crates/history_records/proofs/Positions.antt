-- An accepted position meets the third demand, and after a refused one's number stand zeros. Assumes nothing.
use mathlib.Core.Path.{◌≡◌, refl, ap, ◌∙◌}
use mathlib.Core.List.{List, ◌∷◌, ◌++◌, map}
use Prim.Native.Nat.{ℕ, zero, suc, ◌+◌, ◌-◌, ◌*◌, ◌≤◌, ◌<◌, zero-le}
use native.Mathlib.Omega.{arith}
use lib.IntN.{ℤ, pos, nat_abs}
use lib.ListN.{get_or, take, replicate, replicate-append-replicate}
use Rattle.rules.specs.Lists.{up_to, every}
use Rattle.rules.specs.Questions.{after_call}
use Rattle.rules.specs.Separation.{billion, share_of, level_of, separation_questions, separate_answer, factors_of, no_factors, separated}
use Rattle.rules.specs.History.{least_width, most_width, window_exposures, window_increments, window_averages, separation_entries, position_of, position_count, history_list}
use Rattle.laws.proofs.Lists.{take_padded, length_up_to}
use Rattle.laws.proofs.Joined.{joined_all}
use Rattle.laws.proofs.Questions.{yes_at, after_refusal}
use Rattle.totals.proofs.Square.{zero_outside}
use Rattle.accuracy.proofs.Near.{near_exact}
use Rattle.positions.proofs.Sizes.{entries_small}
use Rattle.history_records.specs.Records.{OfAccepted, OfRefused}

-- the first c of m zeros
zeros : (c m : ℕ) → c ≤ m → map pos (take c (replicate m 0)) ≡ replicate c (pos 0)
zeros zero m h = refl
zeros (suc c) zero h = absurd (omega arith)
zeros (suc c) (suc m) h = ap (λ (l : List ℤ). pos 0 ∷ l) (zeros c m (omega arith))

module _ (s : List (List ℤ)) (k : ℕ) (h : k < 16) where
  -- the entries where the number is 0, and where it is not
  accepted_entries : separate_answer s k ≡ 0 → separation_entries s k ≡ pos 0 ∷ (map pos (up_to (share_of s k) (k + 1)) ++ map pos (up_to (level_of s k) (k + 1)))
  unfolding separation_entries separated after_call factors_of
  accepted_entries e =
      rw (e, take_padded 16 (k + 1) 0 (up_to (share_of s k) (k + 1)) (length_up_to (share_of s k) (k + 1)), take_padded 16 (k + 1) 0 (up_to (level_of s k) (k + 1)) (length_up_to (level_of s k) (k + 1))) refl

  refused_entries : (separate_answer s k ≡ 0 → ⊥) → separation_entries s k ≡ pos (separate_answer s k) ∷ replicate (2 * (k + 1)) (pos 0)
  unfolding separation_entries separated no_factors
  refused_entries e =
      let twice : k + 1 + (k + 1) ≡ 2 * (k + 1) = omega arith in
      rw (after_refusal (separate_answer s k) (factors_of s k) (no_factors k) e, zeros (k + 1) 16 (omega arith))
      (ap (λ (l : List ℤ). pos (separate_answer s k) ∷ l) (replicate-append-replicate (k + 1) (k + 1) (pos 0) ∙ ap (λ (c : ℕ). replicate c (pos 0)) twice))

module _ (years width : ℕ) (n : List ℕ) (p : List ℤ) (a : ℕ) where
  narrow : least_width ≤ width → width ≤ most_width → width - 1 < 16
  narrow wide few = omega arith

  again : least_width ≤ width → width - 1 + 1 ≡ width
  again wide = omega arith

  pub accepted : OfAccepted years width n p a
  unfolding position_of window_averages separate_answer separation_questions every
  accepted wide few e =
      let s = window_averages years width n p a in
      let k = width - 1 in
      (rw (again wide) at (accepted_entries s k (narrow wide few) e), near_exact s k (zero_outside k (window_exposures width n a) (window_increments years width p a) (narrow wide few)) (yes_at (separation_questions s k) refl e 0) (yes_at (separation_questions s k) refl e 1) (yes_at (separation_questions s k) refl e 2))

  pub refused : OfRefused years width n p a
  unfolding position_of
  refused wide few e = rw (again wide) at (refused_entries (window_averages years width n p a) (width - 1) (narrow wide few) e)

-- no entry of a list is larger than S
pub list_small : (years width : ℕ) (n : List ℕ) (p : List ℤ) (i : ℕ) → nat_abs (get_or (history_list years width n p) i (pos 0)) ≤ billion
unfolding history_list position_of
list_small years width n p =
    joined_all (λ (z : ℤ). nat_abs z ≤ billion) (pos 0) zero-le (position_of years width n p) (position_count years width) (λ a j h. entries_small (window_averages years width n p a) (width - 1) j)
