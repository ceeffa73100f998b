-- The answer where question 20 says no, where question 21 does, and where neither does. Assumes nothing.
use mathlib.Core.Path.{◌≡◌, refl}
use mathlib.Core.Bool.{Bool, true, false}
use mathlib.Core.List.{[], ◌∷◌}
use Prim.Native.Nat.{ℕ, ◌≤◌, ◌<◌}
use native.Mathlib.Omega.{arith}
use borrow.Author.Tests.{leb-true}
use lib.Dec.{leb}
use lib.ListN.{replicate}
use Rattle.rules.specs.Lists.{up_to, padded, every, between}
use Rattle.rules.specs.Questions.{first_no, after_call}
use Rattle.rules.specs.Inflation.{most_years, index_after, shape_fits, rates_pass, indices_pass, inflation_questions, inflation_answer, indices_of}
use Rattle.rules.specs.declared.Inflation.{Inflation}
use Rattle.laws.proofs.Lists.{both_left, both_right, every_up_to}
use Rattle.laws.proofs.Questions.{yes_at}
use Rattle.entries.proofs.Leading.{leading_all}
use Rattle.inflation.specs.Walk.{refusal, accepted, is_index_at, years_within}
use Rattle.inflation.proofs.Years.{leading_few}

module _ (shape : Inflation) (years : ℕ) where
  pub years_most : rates_pass shape years ≡ true → years ≤ most_years
  unfolding rates_pass
  years_most h = leb-true years most_years (both_right (leb 1 years) (leb years most_years) (both_left (between 1 most_years years) (shape_fits shape years) h))

  -- of an accepted call: every index of a year wanted is from 1 to 5,000,000
  pub index_within : inflation_answer shape years ≡ 0 → (n : ℕ) → n < years → is_index_at shape n ≡ true
  unfolding inflation_answer inflation_questions indices_pass every
  index_within h n l = every_up_to (is_index_at shape) (λ m. m) years n (yes_at (inflation_questions shape years) refl h 1) l

  pub rates_refused : rates_pass shape years ≡ false → refusal 20 ≡ indices_of shape years
  unfolding indices_of inflation_answer inflation_questions first_no after_call
  rates_refused h = rw h

  -- question 21 says yes where all years are within
  pub all_within : indices_pass shape years ≡ true → years_within shape years ≡ years
  unfolding indices_pass years_within
  all_within h = leading_all (is_index_at shape) years h

  -- and no where some is not
  pub some_left : indices_pass shape years ≡ false → years_within shape years < years
  unfolding indices_pass years_within
  some_left h = leading_few (is_index_at shape) years h

  module _ (rates : rates_pass shape years ≡ true) where
    pub index_refused : years_within shape years < years → refusal 21 ≡ indices_of shape years
    unfolding indices_of inflation_answer inflation_questions first_no after_call
    index_refused h = rw rates (go (indices_pass shape years) all_within)
      where
        go : (b : Bool) → (b ≡ true → years_within shape years ≡ years)
            → refusal 21 ≡ record { refused = first_no ((21, b) ∷ []); values = after_call (first_no ((21, b) ∷ [])) (padded most_years 0 (up_to (index_after shape) years)) (replicate most_years 0) }
        go true e = absurd (omega (arith, e refl))
        go false e = refl

    pub indices_accepted : years ≤ years_within shape years
        → accepted (up_to (index_after shape) (years_within shape years)) ≡ indices_of shape years
    unfolding indices_of inflation_answer inflation_questions first_no after_call
    indices_accepted h = rw rates (go (indices_pass shape years) refl)
      where
        go : (b : Bool) → indices_pass shape years ≡ b
            → accepted (up_to (index_after shape) (years_within shape years))
            ≡ record { refused = first_no ((21, b) ∷ []); values = after_call (first_no ((21, b) ∷ [])) (padded most_years 0 (up_to (index_after shape) years)) (replicate most_years 0) }
        go true e = rw (all_within e)
        go false e = absurd (omega (arith, some_left e))
