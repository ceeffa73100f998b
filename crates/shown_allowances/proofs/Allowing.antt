-- The allowances in the array are the third demand's, since the claims that they are worked out from are the figures' exposures. Assumes nothing.
use Prim.Native.Nat.{ℕ, zero, suc, ◌+◌, ◌*◌, ◌≤◌}
use native.Mathlib.Nat.{add-zero}
use native.Mathlib.Omega.{arith}
use mathlib.Core.Path.{◌≡◌, ap, ◌∙◌}
use mathlib.Core.List.{List}
use lib.IntN.{ℤ, pos, ◌+ℤ◌}
use lib.ListN.{get_or}
use Rattle.rules.specs.Lists.{total, up_to}
use Rattle.rules.specs.Record.{Figures}
use Rattle.rules.specs.Demand.{tail_allowance, provision_allowance, reserve_allowance}
use Rattle.laws.proofs.Totals.{total_none, total_more, sum_to_pos}
use Rattle.vectors.specs.Vectors.{figure_at}
use Rattle.allowance_figures.proofs.Demanded.{provision_allowance_lem, reserve_allowance_lem}
use Rattle.figure_places.specs.Places.{added_at}
use Rattle.shown_allowances.specs.Proved.{sum_at, Allowed}
use Rattle.shown_allowances.proofs.Standing.{Standing}

-- each number raised by c
total_raised : (g : ℕ → ℕ) (c n : ℕ) → total (up_to g n) + c * n ≡ total (up_to (λ i. g i + c) n)
total_raised g c zero = omega (arith, total_none g, total_none (λ i. g i + c))
total_raised g c (suc n) = omega (arith, total_more g n, total_more (λ i. g i + c) n, total_raised g c n)

module _ (f : Figures) (list xs : List ℤ) (standing : Standing f list xs) where
  provisions : (i : ℕ) → i ≤ f.k → figure_at xs ((added_at f.k).allowances + i) ≡ pos (provision_allowance f i)
  provisions i h = standing.allowances i h ∙ rw (standing.exposures i h, add-zero, provision_allowance_lem f i h)

  reserves : (i : ℕ) → i ≤ f.k → figure_at xs ((added_at f.k).margins + i) ≡ pos (reserve_allowance f i)
  reserves i h = standing.margins i h ∙ rw (standing.exposures i h, reserve_allowance_lem f i h)

  tails : sum_at xs (added_at f.k).exposures (f.k + 1) +ℤ pos (100 * (f.k + 1)) ≡ pos (total (up_to (tail_allowance f) (f.k + 1)))
  unfolding tail_allowance
  tails =
      let claims : ℕ → ℕ = λ i. get_or f.exposures i 0 in
      ap (λ (z : ℤ). z +ℤ pos (100 * (f.k + 1))) (sum_to_pos (λ i. figure_at xs ((added_at f.k).exposures + i)) claims (f.k + 1) (λ i l. standing.exposures i (omega arith)))
      ∙ ap pos (total_raised claims 100 (f.k + 1))

  pub allowed : Allowed f xs
  allowed = record {
    provisions = provisions;
    reserves = reserves;
    provision_total = sum_to_pos (λ i. figure_at xs ((added_at f.k).allowances + i)) (provision_allowance f) (f.k + 1) (λ i l. provisions i (omega arith));
    reserve_total = sum_to_pos (λ i. figure_at xs ((added_at f.k).margins + i)) (reserve_allowance f) (f.k + 1) (λ i l. reserves i (omega arith));
    tail_total = tails;
  }
