-- The findings of questions 12 and 15 of arrays that hold the figures' own, and what they name. Assumes nothing.
use Prim.Native.Nat.{ℕ, ◌+◌, ◌<◌}
use native.Mathlib.Omega.{arith}
use mathlib.Core.Path.{◌≡◌}
use mathlib.Core.Bool.{true}
use mathlib.Core.List.{List}
use lib.IntN.{ℤ, pos}
use lib.ListN.{take}
use Rattle.rules.specs.Lists.{total}
use Rattle.rules.specs.Record.{Figures}
use Rattle.rules.specs.Triangle.{cumulatives_pass}
use Rattle.rules.specs.Expense.{ulae_total}
use Rattle.rules.specs.Growth.{latest_paid}
use Rattle.rules.specs.Results.{paid_in, latest_paid_in}
use Rattle.reading.specs.Reading.{Sound}
use Rattle.listing.specs.Starts.{Addable}
use Rattle.triangle.proofs.Passed.{paid_total_lem}
use Rattle.outcomes.proofs.Corrected.{paid_small}
use Rattle.finding.specs.Places.{nowhere, payment_year, found}
use Rattle.reserve_findings.specs.ReserveFindings.{ratio_finding, latest_finding}

-- question 12, of the paid cumulatives c and the ULAE totals u
module _ (f : Figures) (good : Sound f) (six : cumulatives_pass f.k f.increments ≡ true) (k : ℕ) (c u : List ℕ) (ek : k ≡ f.k) (ec : c ≡ paid_in f) (eu : u ≡ f.ulae) where
  pub totals_ready : (k < 16) × (Addable c × Addable u)
  totals_ready = rw (ek, ec, eu) (good.few, (paid_small f six, λ t. omega (arith, good.ulae t)))

  pub ratio_is : found nowhere 0 0 (pos (total (take (k + 1) c))) (pos (total (take (k + 1) u))) (pos 0) ≡ ratio_finding f
  unfolding ratio_finding ulae_total paid_in
  ratio_is = rw (ek, ec, eu, paid_total_lem f.k f.increments six good.few)

-- question 15, of Y
pub latest_found : (f : Figures) (k : ℕ) (p : List ℤ) (y : ℤ) → k ≡ f.k → p ≡ f.increments → y ≡ latest_paid k p → found payment_year k 0 y (pos 0) (pos 0) ≡ latest_finding f
unfolding latest_finding latest_paid_in
latest_found f k p y ek ep ey = rw (ey, ek, ep)
