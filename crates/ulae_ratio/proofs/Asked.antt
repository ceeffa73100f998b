-- What question 12 answers together with 15, 16 and 17, and what it says of the two totals. Assumes nothing.
use Prim.Native.Nat.{ℕ, ◌≤◌}
use native.Mathlib.Omega.{arith}
use borrow.Author.Tests.{leb-true, le-leb}
use mathlib.Core.Path.{◌≡◌, refl}
use mathlib.Core.Bool.{true, false}
use mathlib.Core.List.{List}
use lib.Dec.{leb}
use lib.IntN.{ℤ, pos}
use lib.ListN.{get_or}
use Rattle.rules.specs.Questions.{first_no}
use Rattle.rules.specs.Record.{million}
use Rattle.rules.specs.Completion.{ultimate}
use Rattle.rules.specs.Expense.{ratio_pass, plain_ratio}
use Rattle.laws.proofs.Lists.{both_left, both_right}
use Rattle.laws.proofs.Signed.{part_most}
use Rattle.correcting.specs.UsedRatio.{RatioAnswers}
use Rattle.ulae_ratio.specs.AskedRatio.{RatioAsked}

-- a paid cumulative is at most its ultimate
pub paid_most : (c q : List ℕ) (i m : ℕ) → ultimate c q i ≤ m → get_or c i 0 ≤ m
unfolding ultimate
paid_most c q i m h = omega arith

-- a part of a whole is a ratio of at most M
pub plain_most : (all spent : ℕ) → spent ≤ all → plain_ratio (pos all) spent ≤ million
unfolding plain_ratio
plain_most all spent h = part_most million spent (pos all) (le-leb spent all h)

-- where question 12 says yes
module _ (n m : ℕ) (yes12 : ratio_pass (pos n) m ≡ true) where
  pub paid_least : 1 ≤ n
  unfolding ratio_pass
  paid_least = leb-true 1 n (both_left (leb 1 n) (leb m n) yes12)

  pub spent_most : m ≤ n
  unfolding ratio_pass
  spent_most = leb-true m n (both_right (leb 1 n) (leb m n) yes12)

-- the totals as the code holds them, n and m
module _ (year divisor : ℕ) (paid : ℤ) (n m all spent : ℕ) (a : n ≡ all) (b : m ≡ spent) where
  pub twelve : ratio_pass (pos n) m ≡ false → RatioAsked year all spent paid divisor 12 0
  unfolding first_no
  twelve e = rw (← a, ← b, e) (refl, refl)

  -- the others are asked of the plain ratio p
  pub others : ratio_pass (pos n) m ≡ true → (p x r : ℕ) → p ≡ plain_ratio (pos n) m → RatioAnswers year p paid divisor x r → RatioAsked year all spent paid divisor x r
  unfolding first_no
  others e p x r is h = rw (← a, ← b, e) (rw is at h)
