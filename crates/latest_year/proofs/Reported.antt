-- How large the sum of b_j × X_{k−j} over the first years can be. Assumes nothing.
use Prim.Native.Nat.{ℕ, zero, suc, ◌+◌, ◌-◌, ◌*◌, ◌≤◌}
use native.Mathlib.Nat.{mul-le-mul_left}
use native.Mathlib.Omega.{arith}
use mathlib.Core.Path.{◌≡◌, ap}
use mathlib.Core.List.{List}
use lib.ListN.{get_or, take}
use Rattle.rules.specs.Lists.{total, up_to}
use Rattle.rules.specs.Record.{million}
use Rattle.rules.specs.Completion.{most_ultimate, ultimate}
use Rattle.laws.proofs.Totals.{total_none, total_more, total_same, total_part, rest_most}

module _ (k : ℕ) (b c q : List ℕ) (ultimates : (i : ℕ) → i ≤ k → ultimate c q i ≤ most_ultimate) where
  -- the terms of B, and the reporting shares beside them
  abbrev pub term : ℕ → ℕ
  term j = get_or b j 0 * ultimate c q (k - j)

  abbrev part : ℕ → ℕ
  part j = get_or b j 0

  -- no ultimate is above 10^12
  terms_most : (n : ℕ) → n ≤ k + 1 → total (up_to term n) ≤ total (up_to part n) * most_ultimate
  terms_most zero h = omega (arith, total_none term)
  terms_most (suc n) h =
      omega (arith, total_more term n, total_more part n, terms_most n (omega arith), mul-le-mul_left (get_or b n 0) (ultimates (k - n) (omega arith)))

  -- and the shares are at most M together
  pub sum_most : total (take (k + 1) b) ≡ million → (n : ℕ) → n ≤ k + 1 → total (up_to term n) ≤ million * most_ultimate
  sum_most sum n h =
      let all = rest_most b (k + 1) (k + 1) million (omega arith) sum in
      let same = total_same part (λ j. get_or b (k + 1 - (k + 1) + j) 0) (k + 1) (λ j l. ap (λ (i : ℕ). get_or b i 0) (omega arith)) in
      omega (arith, terms_most n h, total_part part n (k + 1) h)
