-- Question 13's reason by the column sums v and the paid cumulatives c in the arrays, of figures f that have passed question 6. Assumes nothing.
use Prim.Native.Nat.{ℕ, ◌+◌, ◌<◌}
use mathlib.Core.Path.{◌≡◌, ◌∙◌}
use mathlib.Core.Bool.{true, false}
use mathlib.Core.List.{List}
use Rattle.rules.specs.Lists.{up_to}
use Rattle.rules.specs.Record.{Figures}
use Rattle.rules.specs.Triangle.{cumulatives_pass}
use Rattle.rules.specs.Ladder.{developed, base, factors_pass}
use Rattle.rules.specs.Results.{paid_in}
use Rattle.triangle.specs.Columns.{column_sum}
use Rattle.ladder.specs.Columns.{developed_in, base_in, Ladderable}
use Rattle.refusal_reasons.specs.RefusalReasons.{development_reason}
use Rattle.refusal_reasons.proofs.Development.{development_same}
use Rattle.figures_run.proofs.Development.{developed_is, base_is, ladderable, thirteen_is}

module _ (f : Figures) (no13 : factors_pass f.k (developed f.k f.increments) (base f.k f.increments) ≡ false) (k : ℕ) (v c : List ℕ) (ek : k ≡ f.k) (few : k < 16)
    (ev : v ≡ up_to (column_sum f.k f.increments (f.k + 1)) 16) (ec : c ≡ paid_in f) where
  fewer : f.k < 16
  fewer = rw ek at few

  pub ready : cumulatives_pass f.k f.increments ≡ true → Ladderable k v c × (factors_pass k (developed_in v) (base_in k v c) ≡ false)
  ready six = rw ek (ladderable f fewer v c ev ec six, thirteen_is f fewer v c ev ec ∙ no13)

  pub development_is : development_reason (developed_in v) (base_in k v c) k ≡ development_reason (developed f.k f.increments) (base f.k f.increments) f.k
  development_is =
      rw ek
      (development_same (developed_in v) (developed f.k f.increments) (base_in f.k v c) (base f.k f.increments) f.k
      (developed_is f fewer v c ev ec) (base_is f fewer v c ev ec) no13)
