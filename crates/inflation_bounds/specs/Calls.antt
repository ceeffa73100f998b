-- What every call for indices gives (document 02, "Inflation as the economists send it"): the entries of an accepted and of a refused one, and what holds where
-- question 20 says yes. Assumes nothing.
use Rattle.std.specs.Prelude.{ℕ, ◌≤◌, ◌<◌, ◌≡◌, true, length, get_or, replicate}
use Rattle.std.specs.Float.Ieee.Positive.{positive}
use Rattle.rules.specs.Record.{most_index}
use Rattle.rules.specs.Inflation.{most_years, rate_after, path_after, WithinHalf, scaled_after, index_after, rate_fits, rates_pass, inflation_answer, indices_of}
use Rattle.rules.specs.declared.Inflation.{Inflation}

-- the index that a call gives of the year that is n years after the first
abbrev pub entry : Inflation → ℕ → ℕ → ℕ
entry shape years n = get_or (indices_of shape years).values n 0

-- the least index that there is, of a path that is halved in each of sixteen years
abbrev pub least_index : ℕ
least_index = 15

pub record Accepted (shape : Inflation) (years : ℕ) : Type 0 where
  -- the index of every year wanted is a whole number W with W − 0.5 ≤ x < W + 0.5, where x is the path after the year times 1,000,000.0, rounded
  pub near : (n : ℕ) → n < years → WithinHalf (scaled_after shape n) (entry shape years n)
  -- no other whole number is
  pub only : (n w : ℕ) → n < years → WithinHalf (scaled_after shape n) w → w ≡ entry shape years n
  -- it is from 15 to 5,000,000
  pub least : (n : ℕ) → n < years → least_index ≤ entry shape years n
  pub most : (n : ℕ) → n < years → entry shape years n ≤ most_index
  -- every year's rate is a number from −0.5 to 1.0, a fading one too, and the path is finite and above zero up to the sixteenth year
  pub rates : (n : ℕ) → rate_fits (rate_after shape n) ≡ true
  pub path : (n : ℕ) → n ≤ most_years → positive (path_after (rate_after shape) n) ≡ true
  -- there are sixteen entries, zeros past the years wanted
  pub sixteen : length (indices_of shape years).values ≡ most_years
  pub rest : (n : ℕ) → years ≤ n → entry shape years n ≡ 0

-- an index of a year wanted that is above 5,000,000
pub record Above (shape : Inflation) (years : ℕ) : Type 0 where
  pub n : ℕ
  pub wanted : n < years
  pub above : most_index < index_after shape n

-- where question 20 says yes
pub record Passed (shape : Inflation) (years : ℕ) : Type 0 where
  -- the rate of every year is a number from −0.5 to 1.0, a fading one too, whose steps are rounded
  pub rates : (n : ℕ) → rate_fits (rate_after shape n) ≡ true
  -- the path is finite and above zero, up to the sixteenth year
  pub path : (n : ℕ) → n ≤ most_years → positive (path_after (rate_after shape) n) ≡ true
  -- no index is below 15
  pub least : (n : ℕ) → n < most_years → least_index ≤ index_after shape n
  -- so that 21 is given if and only if one is above 5,000,000
  pub refused : inflation_answer shape years ≡ 21 → Above shape years
  pub above : Above shape years → inflation_answer shape years ≡ 21

-- of every call that is accepted
abbrev pub OfAccepted : Type 0
OfAccepted = (shape : Inflation) (years : ℕ) → inflation_answer shape years ≡ 0 → Accepted shape years

-- of every call that is refused: all sixteen are 0
abbrev pub OfRefused : Type 0
OfRefused = (shape : Inflation) (years : ℕ) → (inflation_answer shape years ≡ 0 → ⊥) → (indices_of shape years).values ≡ replicate most_years 0

-- of every call to which question 20 says yes
abbrev pub OfPassed : Type 0
OfPassed = (shape : Inflation) (years : ℕ) → rates_pass shape years ≡ true → Passed shape years

-- of every call that is given 21
abbrev pub OfAbove : Type 0
OfAbove = (shape : Inflation) (years : ℕ) → inflation_answer shape years ≡ 21 → Above shape years
