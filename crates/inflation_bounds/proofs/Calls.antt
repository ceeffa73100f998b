-- What every call for indices gives (specs/Calls.antt), from the answers to questions 20 and 21. `accepted`, `refused`, `passed` and `twenty_one_above` are the statements.
-- Assumes nothing.
use mathlib.Core.Path.{◌≡◌, refl, sym, ◌∙◌}
use mathlib.Core.Bool.{Bool, true, false, true≢false}
use mathlib.Core.List.{[], ◌∷◌}
use Prim.Native.Nat.{ℕ, zero, suc, ◌≤◌, ◌<◌}
use native.Mathlib.Omega.{arith}
use borrow.Author.Tests.{leb-true, leb-false, le-leb, lt-leb}
use lib.Dec.{leb}
use lib.ListN.{length, replicate}
use Rattle.rules.specs.Lists.{up_to, below, padded, every, between}
use Rattle.rules.specs.Questions.{first_no, after_call}
use Rattle.rules.specs.Record.{most_index}
use Rattle.rules.specs.Inflation.{most_years, rate_after, WithinHalf, scaled_after, index_after, rates_pass, indices_pass, inflation_questions, inflation_answer, indices_of}
use Rattle.rules.specs.declared.Inflation.{Inflation}
use Rattle.laws.proofs.Lists.{both_right, length_up_to, every_append, fails_at}
use Rattle.laws.proofs.Padded.{filled_length, filled_at, filled_past}
use Rattle.laws.proofs.Questions.{yes_at, after_refusal}
use Rattle.inflation_index.proofs.Whole.{nearest_within, nearest_only}
use Rattle.inflation.proofs.Answers.{years_most, index_within}
use Rattle.inflation_bounds.specs.Calls.{entry, least_index, Above, OfAccepted, OfRefused, OfPassed, OfAbove}
use Rattle.inflation_bounds.proofs.Rates.{rates_fit}
use Rattle.inflation_bounds.proofs.Paths.{path_positive, index_least}

-- one of the numbers below n fails a test
record Fails (p : ℕ → Bool) (n : ℕ) : Type 0 where
  i : ℕ
  less : i < n
  failed : p i ≡ false

one_fails : (p : ℕ → Bool) (n : ℕ) → every p (below n) ≡ false → Fails p n
unfolding up_to every
one_fails p zero h = absurd (true≢false h)
one_fails p (suc n) h = go (p n) refl (every p (below n)) refl (one_fails p n)
  where
    go : (b : Bool) → p n ≡ b → (a : Bool) → every p (below n) ≡ a → (every p (below n) ≡ false → Fails p n) → Fails p (suc n)
    go false e a f later = record { i = n; less = omega arith; failed = e }
    go true e false f later = let one = later f in record { i = one.i; less = omega (arith, one.less); failed = one.failed }
    go true e true f later = absurd (true≢false (sym (every_append p (below n) (n ∷ []) ∙ rw (e, f)) ∙ h))

-- the answer, from both questions
module _ (shape : Inflation) (years : ℕ) where
  rates_passed : inflation_answer shape years ≡ 0 → rates_pass shape years ≡ true
  unfolding inflation_answer inflation_questions every
  rates_passed h = yes_at (inflation_questions shape years) refl h 0

  twenty_one : rates_pass shape years ≡ true → indices_pass shape years ≡ false → inflation_answer shape years ≡ 21
  unfolding inflation_answer inflation_questions first_no
  twenty_one h k = rw (h, k)

  -- where 21 is given, question 20 has said yes and 21 says no
  of_twenty_one : inflation_answer shape years ≡ 21 → (rates_pass shape years ≡ true) × (indices_pass shape years ≡ false)
  unfolding inflation_answer inflation_questions first_no
  of_twenty_one h = go (rates_pass shape years) (indices_pass shape years) h
    where
      go : (a b : Bool) → first_no ((20, a) ∷ (21, b) ∷ []) ≡ 21 → (a ≡ true) × (b ≡ false)
      go true true h = absurd (omega arith)
      go true false h = (refl, refl)
      go false b h = absurd (omega arith)

-- where question 20 says yes
module _ (shape : Inflation) (years : ℕ) (rates : rates_pass shape years ≡ true) where
  least : (n : ℕ) → n < most_years → least_index ≤ index_after shape n
  unfolding index_after scaled_after
  least n l = index_least (rate_after shape) (λ m k. rates_fit years shape rates m) (suc n) (omega arith)

  -- a number that is not an index, and not below 15
  no_index : (w : ℕ) → least_index ≤ w → between 1 most_index w ≡ false → most_index < w
  no_index w l h = leb-false w most_index (sym (rw (le-leb 1 w (omega arith))) ∙ h)

  above : inflation_answer shape years ≡ 21 → Above shape years
  unfolding indices_pass
  above h =
      let one = one_fails (λ n. between 1 most_index (index_after shape n)) years (of_twenty_one shape years h).1 in
      let few = years_most shape years rates in
      record { n = one.i; wanted = one.less; above = no_index (index_after shape one.i) (least one.i (omega (arith, one.less))) one.failed }

  above_answer : Above shape years → inflation_answer shape years ≡ 21
  unfolding indices_pass
  above_answer a =
      twenty_one shape years rates
      (fails_at (λ n. between 1 most_index (index_after shape n)) (λ n. n) years a.n a.wanted (rw (le-leb 1 (index_after shape a.n) (omega (arith, a.above)), lt-leb (index_after shape a.n) most_index a.above)))

-- where question 20 says yes: the rates, the path, the least index, and what 21 says
pub passed : OfPassed
passed shape years rates = record {
  rates = rates_fit years shape rates;
  path = path_positive (rate_after shape) (λ n l. rates_fit years shape rates n);
  least = least shape years rates;
  refused = above shape years rates;
  above = above_answer shape years rates;
}

-- 21 is given of an index above 5,000,000, and of nothing else
pub twenty_one_above : OfAbove
twenty_one_above shape years h = above shape years (of_twenty_one shape years h).0 h

-- a refused call has sixteen zeros
pub refused : OfRefused
unfolding indices_of
refused shape years h = after_refusal (inflation_answer shape years) _ (replicate most_years 0) h

-- the entries of an accepted call
module _ (shape : Inflation) (years : ℕ) (h : inflation_answer shape years ≡ 0) where
  values : (indices_of shape years).values ≡ padded most_years 0 (up_to (index_after shape) years)
  unfolding indices_of after_call
  values = rw h

  entry_is : (n : ℕ) → n < years → entry shape years n ≡ index_after shape n
  entry_is n l = rw values (filled_at most_years 0 (index_after shape) years n 0 l)

  few : years ≤ most_years
  few = years_most shape years (rates_passed shape years h)

  from_least : (n : ℕ) → n < years → least_index ≤ index_after shape n
  from_least n l = least shape years (rates_passed shape years h) n (omega (arith, few))

  to_most : (n : ℕ) → n < years → index_after shape n ≤ most_index
  to_most n l = leb-true (index_after shape n) most_index (both_right (leb 1 (index_after shape n)) (leb (index_after shape n) most_index) (index_within shape years h n l))

  near : (n : ℕ) → n < years → WithinHalf (scaled_after shape n) (index_after shape n)
  unfolding index_after
  near n l = nearest_within (scaled_after shape n) (omega (arith, from_least n l))

  only : (n w : ℕ) → WithinHalf (scaled_after shape n) w → w ≡ index_after shape n
  unfolding index_after
  only n w v = nearest_only (scaled_after shape n) w v

-- an accepted call has an index for every year wanted, the one whole number within a half, and zeros past them
pub accepted : OfAccepted
accepted shape years h = record {
  near = λ n l. rw (entry_is shape years h n l) (near shape years h n l);
  only = λ n w l v. only shape years h n w v ∙ sym (entry_is shape years h n l);
  least = λ n l. rw (entry_is shape years h n l) (from_least shape years h n l);
  most = λ n l. rw (entry_is shape years h n l) (to_most shape years h n l);
  rates = (passed shape years (rates_passed shape years h)).rates;
  path = (passed shape years (rates_passed shape years h)).path;
  sixteen = rw (values shape years h) (filled_length most_years 0 (index_after shape) years (few shape years h));
  rest = λ n l. rw (values shape years h) (filled_past most_years 0 (index_after shape) (λ (x : ℕ). x ≡ 0) 0 refl refl years n l);
}
