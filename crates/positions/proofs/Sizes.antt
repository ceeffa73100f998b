-- How large the entries of a position are, and how many. Assumes nothing.
use mathlib.Core.Path.{◌≡◌, refl}
use mathlib.Core.Bool.{Bool, true, false}
use mathlib.Core.List.{List, [], ◌∷◌, ◌++◌, map}
use Prim.Native.Nat.{ℕ, zero, suc, ◌+◌, ◌*◌, ◌≤◌, ◌<◌, zero-le}
use native.Mathlib.Omega.{arith}
use borrow.Author.Tests.{leb-true}
use lib.Dec.{leb}
use lib.IntN.{ℤ, pos, nat_abs}
use lib.ListN.{length, get_or, take, replicate, length-append, length-replicate}
use Rattle.rules.specs.Lists.{up_to, padded, every}
use Rattle.rules.specs.Questions.{first_no, after_call}
use Rattle.rules.specs.Separation.{billion, share_of, level_of, totals_pass, rests_pass, running_pass, levels_pass, separation_questions, separate_answer, factors_of, no_factors, separated}
use Rattle.rules.specs.History.{separation_entries}
use Rattle.laws.proofs.Lists.{every_up_to}
use Rattle.laws.proofs.Padded.{same_all, filled_length}
use Rattle.laws.proofs.Joined.{append_all, up_to_all, padded_all}
use Rattle.laws.proofs.Questions.{yes_at}
use Rattle.entries.proofs.Runs.{length_naturals}
use Rattle.accuracy.proofs.Near.{share_most}
use Rattle.positions.specs.Entries.{Small}

-- the first no of questions 7 to 10 is at most 10
first_most : (a b c d : Bool) → first_no ((7, a) ∷ (8, b) ∷ (9, c) ∷ (10, d) ∷ []) ≤ 10
unfolding first_no
first_most true true true true = omega arith
first_most true true true false = omega arith
first_most true true false d = omega arith
first_most true false c d = omega arith
first_most false b c d = omega arith

module _ (s : List (List ℤ)) (k : ℕ) where
  -- the number is at most 10
  pub answer_most : separate_answer s k ≤ 10
  unfolding separate_answer separation_questions
  answer_most = first_most (totals_pass s k) (rests_pass s k) (running_pass s k) (levels_pass s k)

  -- where it is 0, no level is above S
  level_most : separate_answer s k ≡ 0 → (h : ℕ) → h < k + 1 → level_of s k h ≤ billion
  unfolding separate_answer separation_questions levels_pass every
  level_most z h l = leb-true (level_of s k h) billion (every_up_to (λ h. leb (level_of s k h) billion) (λ h. h) (k + 1) h (yes_at (separation_questions s k) refl z 3) l)

  -- no share and no level that is handed back is above S
  none : Small (replicate 16 0)
  none = same_all (λ x. x ≤ billion) 0 0 zero-le zero-le 16

  filled : (f : ℕ → ℕ) → ((h : ℕ) → h < k + 1 → f h ≤ billion) → Small (padded 16 0 (up_to f (k + 1)))
  filled f most = padded_all (λ x. x ≤ billion) 0 zero-le 16 0 zero-le (up_to f (k + 1)) (up_to_all (λ x. x ≤ billion) 0 zero-le f (k + 1) most)

  handed : (n : ℕ) → separate_answer s k ≡ n → Small (after_call n (factors_of s k) (no_factors k)).shares × Small (after_call n (factors_of s k) (no_factors k)).levels
  unfolding after_call factors_of no_factors
  handed zero e = (filled (share_of s k) (λ h l. share_most s k h), filled (level_of s k) (level_most e))
  handed (suc n) e = (none, none)

  pub factors_small : Small (separated s k).shares × Small (separated s k).levels
  unfolding separated
  factors_small = handed (separate_answer s k) refl

  -- sixteen of each
  long : (n : ℕ) → k < 16 → (length (after_call n (factors_of s k) (no_factors k)).shares ≡ 16) × (length (after_call n (factors_of s k) (no_factors k)).levels ≡ 16)
  unfolding after_call factors_of no_factors
  long zero h = (filled_length 16 0 (share_of s k) (k + 1) (omega arith), filled_length 16 0 (level_of s k) (k + 1) (omega arith))
  long (suc n) h = (length-replicate {A = ℕ} 16 0, length-replicate {A = ℕ} 16 0)

  pub factors_long : k < 16 → (length (separated s k).shares ≡ 16) × (length (separated s k).levels ≡ 16)
  unfolding separated
  factors_long h = long (separate_answer s k) h

  -- a number, k + 1 shares and k + 1 levels
  pub entries_length : k < 16 → length (separation_entries s k) ≡ 1 + 2 * (k + 1)
  unfolding separation_entries
  entries_length h =
      let both = factors_long h in
      let shares = length_naturals (k + 1) (separated s k).shares (omega (arith, both.0)) in
      let levels = length_naturals (k + 1) (separated s k).levels (omega (arith, both.1)) in
      omega (arith, shares, levels, length-append (map pos (take (k + 1) (separated s k).shares)) (map pos (take (k + 1) (separated s k).levels)))

  -- none of them is larger than S
  whole_small : (xs : List ℕ) → Small xs → (n i : ℕ) → nat_abs (get_or (map pos (take n xs)) i (pos 0)) ≤ billion
  whole_small xs small zero i = zero-le
  whole_small [] small (suc n) i = zero-le
  whole_small (x ∷ xs) small (suc n) zero = small 0
  whole_small (x ∷ xs) small (suc n) (suc i) = whole_small xs (λ j. small (suc j)) n i

  pub entries_small : (i : ℕ) → nat_abs (get_or (separation_entries s k) i (pos 0)) ≤ billion
  unfolding separation_entries
  entries_small zero = omega (arith, answer_most)
  entries_small (suc i) =
      let both = factors_small in
      append_all (λ (z : ℤ). nat_abs z ≤ billion) (pos 0) zero-le (map pos (take (k + 1) (separated s k).shares)) (map pos (take (k + 1) (separated s k).levels)) (whole_small (separated s k).shares both.0 (k + 1)) (whole_small (separated s k).levels both.1 (k + 1)) i
