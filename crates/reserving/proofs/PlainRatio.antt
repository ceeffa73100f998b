-- Question 12 and the plain ULAE ratio, from the totals n of the paid cumulatives and m of the ULAE totals of figures that have passed question 6. Assumes nothing.
use Prim.Native.Nat.{ℕ, ◌+◌, ◌*◌, ◌≤◌}
use native.Mathlib.Omega.{arith}
use borrow.Author.Tests.{leb-true}
use mathlib.Core.Path.{◌≡◌, sym, ◌∙◌}
use mathlib.Core.Bool.{true}
use lib.Dec.{leb}
use lib.IntN.{pos}
use lib.ListN.{take}
use Rattle.rules.specs.Lists.{total}
use Rattle.rules.specs.Record.{Figures, most_amount}
use Rattle.rules.specs.Triangle.{cumulatives_pass}
use Rattle.rules.specs.Expense.{paid_total, ulae_total, ratio_pass, plain_ratio}
use Rattle.rules.specs.Results.{paid_in, plain_ratio_in}
use Rattle.laws.proofs.Lists.{both_left, total_most}
use Rattle.triangle.proofs.Passed.{paid_total_lem}
use Rattle.reading.specs.Reading.{Sound}

module _ (f : Figures) (good : Sound f) (six : cumulatives_pass f.k f.increments ≡ true) (n m : ℕ) (paid : n ≡ total (take (f.k + 1) (paid_in f))) (spent : m ≡ total (take (f.k + 1) f.ulae)) where
  paid_is : pos n ≡ paid_total f.k f.increments
  unfolding paid_in
  paid_is = rw paid (sym (paid_total_lem f.k f.increments six good.few))

  pub twelve_is : ratio_pass (pos n) m ≡ ratio_pass (paid_total f.k f.increments) (ulae_total f.k f.ulae)
  unfolding ulae_total
  twelve_is = rw (paid_is, spent)

  pub paid_least : ratio_pass (paid_total f.k f.increments) (ulae_total f.k f.ulae) ≡ true → 1 ≤ n
  unfolding ratio_pass
  paid_least q = leb-true 1 n (both_left (leb 1 n) (leb m n) (twelve_is ∙ q))

  pub spent_most : m ≤ 16 * most_amount
  spent_most = omega (arith, spent, total_most most_amount f.ulae good.ulae (f.k + 1), good.few)

  pub plain_is : plain_ratio (pos n) m ≡ plain_ratio_in f
  unfolding ulae_total plain_ratio_in
  plain_is = rw (paid_is, spent)
