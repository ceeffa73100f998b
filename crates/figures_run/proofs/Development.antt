-- Question 13, of the column sums v and the paid cumulatives c that the rows leave, and the development factors. Assumes nothing.
use Prim.Native.Nat.{ℕ, ◌+◌, ◌-◌, ◌≤◌, ◌<◌}
use native.Mathlib.Omega.{arith}
use mathlib.Core.Path.{◌≡◌, ap₂, ◌∙◌}
use mathlib.Core.Bool.{true}
use mathlib.Core.List.{List}
use lib.ListN.{get_or, replicate}
use lib.Seq.{sets}
use Rattle.rules.specs.Lists.{up_to}
use Rattle.rules.specs.Record.{Figures}
use Rattle.rules.specs.Triangle.{cumulatives_pass, paid_to}
use Rattle.rules.specs.Ladder.{developed, base, development_factor, development_factors, factor_passes, factors_pass}
use Rattle.rules.specs.Results.{paid_in, development_in}
use Rattle.rules.specs.Engine.{development_passes}
use Rattle.laws.proofs.Lists.{length_up_to, up_to_ext, every_same}
use Rattle.laws.proofs.Padded.{filled_at}
use Rattle.laws.proofs.Joined.{sets_filled}
use Rattle.triangle.specs.Columns.{column_sum}
use Rattle.triangle.proofs.Passed.{column_developed, column_base, column_sum_most}
use Rattle.entries.specs.Leading.{leading}
use Rattle.entries.proofs.Leading.{leading_all}
use Rattle.ladder.specs.Columns.{developed_in, base_in, Ladderable}

module _ (f : Figures) (few : f.k < 16) (v c : List ℕ) (sums : v ≡ up_to (column_sum f.k f.increments (f.k + 1)) 16) (paid : c ≡ paid_in f) where
  abbrev k : ℕ
  k = f.k

  paid_at_lem : (i : ℕ) → i ≤ f.k → get_or c i 0 ≡ paid_to f.k f.increments i
  unfolding paid_in
  paid_at_lem i le = rw paid (filled_at 16 0 (paid_to k f.increments) (k + 1) i 0 (omega arith))

  pub developed_is : (j : ℕ) → j < f.k → developed_in v j ≡ developed f.k f.increments j
  unfolding developed_in
  developed_is j lt = rw sums (column_developed k f.increments few j lt)

  column_is : (j : ℕ) → j < f.k → get_or v j 0 ≡ base f.k f.increments j + paid_to f.k f.increments (f.k - j)
  column_is j lt = rw sums (column_base k f.increments few j lt)

  pub base_is : (j : ℕ) → j < f.k → base_in f.k v c j ≡ base f.k f.increments j
  unfolding base_in
  base_is j lt = omega (arith, column_is j lt, paid_at_lem (k - j) (omega arith))

  pub ladderable : cumulatives_pass f.k f.increments ≡ true → Ladderable f.k v c
  ladderable six = record {
    few = few;
    columns = rw sums (column_sum_most k f.increments six few);
    paid = λ j lt. omega (arith, column_is j lt, paid_at_lem (k - j) (omega arith));
  }

  pub thirteen_is : factors_pass f.k (developed_in v) (base_in f.k v c) ≡ development_passes f
  unfolding factors_pass
  thirteen_is = every_same _ _ (λ j. j) (λ j. j) k (λ j lt. ap₂ factor_passes (developed_is j lt) (base_is j lt))

  -- the factors, where it says yes
  pub development_are : development_passes f ≡ true → (m : List ℕ) → m ≡ sets (replicate 16 0) 0
      (up_to (λ j. development_factor (developed_in v j) (base_in f.k v c j)) (leading (λ j. factor_passes (developed_in v j) (base_in f.k v c j)) f.k)) → m ≡ development_in f
  unfolding development_in development_factors factors_pass
  development_are thirteen m p =
      let one : ℕ → ℕ = λ j. development_factor (developed k f.increments j) (base k f.increments j) in
      let all = leading_all (λ j. factor_passes (developed_in v j) (base_in k v c j)) k (thirteen_is ∙ thirteen) in
      p
      ∙ rw (all, up_to_ext (λ j. development_factor (developed_in v j) (base_in k v c j)) one k (λ j lt. ap₂ development_factor (developed_is j lt) (base_is j lt)))
      (sets_filled 16 0 (up_to one k) (omega (arith, length_up_to one k, few)))
