-- What the ULAE ratio asks of its numbers, and what is answered of it. Assumes nothing.
use Rattle.std.specs.Prelude.{ℕ, ◌+◌, ◌≤◌, ◌<◌, ◌≡◌, cond, List, ◌∷◌, ℤ, pos, get_or, take}
use Rattle.rules.specs.Lists.{total}
use Rattle.rules.specs.Questions.{first_no, after_call}
use Rattle.rules.specs.Record.{million, most_amount}
use Rattle.rules.specs.Completion.{most_ultimate, ultimate}
use Rattle.rules.specs.Expense.{ratio_pass, plain_ratio}
use Rattle.rules.specs.Growth.{growth_questions, used_ratio}

-- paid cumulatives c, provisions q, reporting shares b and ULAE totals u of the years 0 to k, and the weight w, within their limits
pub record Rateable (k : ℕ) (c q b u : List ℕ) (w : ℕ) : Type 0 where
  pub few : k < 16
  pub ultimates : (i : ℕ) → i ≤ k → ultimate c q i ≤ most_ultimate
  pub reporting : total (take (k + 1) b) ≡ million
  pub ulae : (t : ℕ) → get_or u t 0 ≤ most_amount
  pub weight : w ≤ million

-- the number n that question 12 of all that is paid and of all the ULAE, and 15, 16 and 17 of a valuation year, Y and the divisor answer; and the ratio r: the one that
-- is used, the plain one where 15, 16 or 17 says no, and 0 where 12 does
abbrev pub RatioAsked : ℕ → ℕ → ℕ → ℤ → ℕ → ℕ → ℕ → Type 0
RatioAsked year all spent paid divisor n r =
    (n ≡ first_no ((12, ratio_pass (pos all) spent) ∷ growth_questions year (plain_ratio (pos all) spent) paid divisor))
    × (r ≡ cond (ratio_pass (pos all) spent) (after_call n (used_ratio year (plain_ratio (pos all) spent) divisor) (plain_ratio (pos all) spent)) 0)
