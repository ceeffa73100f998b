-- What corrects a ratio, of figures f, and the findings of questions 16 and 17. Assumes nothing.
use Prim.Native.Nat.{ℕ, ◌*◌, ◌/◌, ◌<◌, ◌^◌}
use native.Mathlib.Nat.{div-le_self}
use native.Mathlib.Omega.{arith}
use Rattle.reasons.proofs.Counted.{no_both}
use mathlib.Core.Path.{◌≡◌, refl, ap}
use mathlib.Core.Bool.{true, false}
use lib.IntN.{ℤ, pos, negsuc, nat_abs}
use Rattle.rules.specs.Record.{Figures, million}
use Rattle.rules.specs.Growth.{latest_paid_passes, corrected_ratio}
use Rattle.rules.specs.Results.{plain_ratio_in, latest_reported_in, latest_paid_in, divisor_in}
use Rattle.finding.specs.Places.{nowhere, found}
use Rattle.correction_findings.specs.declared.Parts.{Parts}
use Rattle.correction_findings.specs.CorrectionFindings.{divisor_finding, corrected_finding, parts_in, Small}

pub parts_are : (f : Figures) (w p b y d : ℕ) → w ≡ f.weight → p ≡ plain_ratio_in f → b ≡ latest_reported_in f → y ≡ nat_abs (latest_paid_in f) → d ≡ divisor_in f
    → record { weight = w; plain = p; reported = b; paid = y; divisor = d } ≡ parts_in f
unfolding parts_in
parts_are f w p b y d ew ep eb ey ed = rw (ew, ep, eb, ey, ed)

-- Y that question 15 has passed is its own size
size_same : (z : ℤ) → latest_paid_passes z ≡ true → pos (nat_abs z) ≡ z
unfolding latest_paid_passes
size_same (pos n) q = refl
size_same (negsuc n) q = absurd (no_both false q refl)

-- question 16
pub divisor_found : (f : Figures) (x : Parts) → x ≡ parts_in f → latest_paid_passes (latest_paid_in f) ≡ true → found nowhere 0 0 (pos x.weight) (pos x.reported) (pos x.paid) ≡ divisor_finding f
unfolding parts_in divisor_finding
divisor_found f x e q = rw (e, size_same (latest_paid_in f) q)

-- question 17
pub corrected_found : (f : Figures) (x : Parts) → x ≡ parts_in f → found nowhere 0 0 (pos x.plain) (pos x.divisor) (pos (x.plain * million / x.divisor)) ≡ corrected_finding f
unfolding parts_in corrected_finding corrected_ratio
corrected_found f x e = rw e

pub divisor_is : (f : Figures) (x : Parts) → x ≡ parts_in f → x.divisor ≡ divisor_in f
unfolding parts_in
divisor_is f x e = ap (λ (y : Parts). y.divisor) e

-- its figures fit 64 bits with a sign
pub corrected_fits : (x : Parts) → Small x → (x.plain < 2 ^ 63) × ((x.divisor < 2 ^ 63) × (x.plain * million / x.divisor < 2 ^ 63))
corrected_fits x s = (omega (arith, s.plain), (omega (arith, s.divisor), omega (arith, s.plain, div-le_self (x.plain * million) x.divisor)))
