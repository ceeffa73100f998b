-- The plain ULAE ratio and what corrects it, of figures f that have passed question 6 and of arrays that hold them. Assumes nothing.
use Prim.Native.Nat.{ℕ, ◌+◌, ◌*◌, ◌≤◌, ◌<◌}
use native.Mathlib.Nat.{mul-le-mul, div-le_self}
use native.Mathlib.Omega.{arith}
use borrow.Author.Tests.{leb-true}
use mathlib.Core.Path.{◌≡◌, ap}
use mathlib.Core.Bool.{true, false}
use mathlib.Core.List.{List, ◌++◌}
use lib.IntN.{ℤ, pos, negsuc, nat_abs}
use lib.ListN.{get_or, take}
use Rattle.rules.specs.Lists.{total, up_to, padded}
use Rattle.rules.specs.Record.{Figures, million, most_amount}
use Rattle.rules.specs.Triangle.{cumulatives_pass}
use Rattle.rules.specs.Completion.{most_ultimate, ultimate, ultimates_pass, provision, provisions}
use Rattle.rules.specs.Expense.{paid_total, ulae_total, ratio_pass, plain_ratio}
use Rattle.rules.specs.Growth.{corrects, latest_reported, latest_paid, latest_paid_passes, divisor_of}
use Rattle.rules.specs.Results.{provision_section, section_start, factors_in, paid_in, levels_in, tails_in, provisions_in, plain_ratio_in, latest_reported_in, latest_paid_in, divisor_in, results_of}
use Rattle.rules.specs.Demand.{entry_of, printed}
use Rattle.laws.proofs.Lists.{up_to_ext}
use Rattle.triangle.proofs.Passed.{paid_most}
use Rattle.reading.specs.Reading.{Sound}
use Rattle.listing.specs.Starts.{Addable}
use Rattle.reserving.proofs.PlainRatio as ratio
use Rattle.results.proofs.Limits.{ultimates_most}
use Rattle.results.proofs.Printed.{provision_entry}
use Rattle.growth.specs.declared.Correction.{Correction}
use Rattle.outcomes.specs.Outcome.{correction_in, most_correction}

abbrev pub made : ℕ → ℕ → ℕ → ℕ → Correction
made p b y d = record { plain = p; reported = b; paid = y; divisor = d }

-- Y is at least 1 where question 15 says yes
pub latest_least : (z : ℤ) → latest_paid_passes z ≡ true → 1 ≤ nat_abs z
unfolding latest_paid_passes
latest_least (pos n) q = leb-true 1 n q
latest_least (negsuc n) q = omega arith

-- the plain ratio and the divisor are at most 2 × 10^18
pub plain_most : (n m : ℕ) → m ≤ 16 * most_amount → plain_ratio (pos n) m ≤ most_correction
unfolding plain_ratio
plain_most n m h = omega (arith, div-le_self (million * m) n)

pub divisor_most : (w b : ℕ) (y : ℤ) → w ≤ million → b ≤ most_ultimate → divisor_of w b y ≤ most_correction
unfolding divisor_of
divisor_most w b y h l = omega (arith, mul-le-mul h l, div-le_self (w * b) (nat_abs y))

-- no paid cumulative is above 10^11
pub paid_small : (f : Figures) → cumulatives_pass f.k f.increments ≡ true → Addable (paid_in f)
unfolding paid_in
paid_small f six i = omega (arith, paid_most f.k f.increments six i)

module _ (f : Figures) (good : Sound f) (six : cumulatives_pass f.k f.increments ≡ true) where
  -- the paid cumulatives c and the ULAE totals u of the years 0 to k
  module _ (k : ℕ) (c u : List ℕ) (ek : k ≡ f.k) (ec : c ≡ paid_in f) (eu : u ≡ f.ulae) where
    paid_sum : total (take (k + 1) c) ≡ total (take (f.k + 1) (paid_in f))
    paid_sum = rw (ek, ec)

    spent_sum : total (take (k + 1) u) ≡ total (take (f.k + 1) f.ulae)
    spent_sum = rw (ek, eu)

    pub ratio_ready : ratio_pass (paid_total f.k f.increments) (ulae_total f.k f.ulae) ≡ true
        → (k < 16) × (Addable c × (Addable u × ((1 ≤ total (take (k + 1) c)) × (total (take (k + 1) u) ≤ 16 * most_amount))))
    ratio_ready q = (
      omega (arith, good.few),
      (
        rw ec (paid_small f six),
        (
          rw eu (λ t. omega (arith, good.ulae t)),
          (ratio.paid_least f good six _ _ paid_sum spent_sum q, ratio.spent_most f good six _ _ paid_sum spent_sum),
        ),
      ),
    )

    pub plain_is : plain_ratio (pos (total (take (k + 1) c))) (total (take (k + 1) u)) ≡ plain_ratio_in f
    plain_is = ratio.plain_is f good six _ _ paid_sum spent_sum

-- the provisions that stand in a list which begins with the results
pub provisions_are : (year : ℕ) (f : Figures) (rest list : List ℤ) (k p : ℕ) → k ≡ f.k → p ≡ section_start f.k provision_section → list ≡ results_of year f ++ rest
    → padded 16 0 (up_to (λ i. nat_abs (get_or list (p + i) (pos 0))) (k + 1)) ≡ provisions_in f
unfolding provisions_in provisions printed entry_of
provisions_are year f rest list k p ek ep el =
    rw (ek, ep, el)
    (ap (padded 16 0)
    (up_to_ext (λ i. nat_abs (get_or (results_of year f ++ rest) (section_start f.k provision_section + i) (pos 0)))
    (provision f.k f.exposures (factors_in f).shares (levels_in f) (tails_in f)) (f.k + 1) (λ i l. provision_entry year f rest i (omega arith))))

-- the ultimates of paid cumulatives c and provisions q
pub ultimates_fit : (f : Figures) (k : ℕ) (c q : List ℕ) → k ≡ f.k → c ≡ paid_in f → q ≡ provisions_in f → ultimates_pass f.k (paid_in f) (provisions_in f) ≡ true
    → (i : ℕ) → i ≤ k → ultimate c q i ≤ most_ultimate
ultimates_fit f k c q ek ec eq pass = rw (ek, ec, eq) (ultimates_most f pass)

-- their reporting shares sum to M
pub shares_sum : (f : Figures) → Sound f → (k : ℕ) (b : List ℕ) → k ≡ f.k → b ≡ f.reporting → total (take (k + 1) b) ≡ million
shares_sum f good k b ek eb = rw (ek, eb) good.reporting_sum

-- B of arrays that hold the figures' own, and the divisor of it and of Y
module _ (f : Figures) where
  pub reported_is : (k : ℕ) (b c q : List ℕ) → k ≡ f.k → b ≡ f.reporting → c ≡ paid_in f → q ≡ provisions_in f → latest_reported k b c q ≡ latest_reported_in f
  unfolding latest_reported_in
  reported_is k b c q ek eb ec eq = rw (ek, eb, ec, eq)

  pub latest_is : (k : ℕ) (p : List ℤ) → k ≡ f.k → p ≡ f.increments → latest_paid k p ≡ latest_paid_in f
  unfolding latest_paid_in
  latest_is k p ek ep = rw (ek, ep)

  pub divisor_is : (w b y : ℕ) → w ≡ f.weight → b ≡ latest_reported_in f → y ≡ nat_abs (latest_paid_in f) → divisor_of w b (pos y) ≡ divisor_in f
  unfolding divisor_in divisor_of
  divisor_is w b y ew eb ey = rw (ew, eb, ey)

  -- the whole, of a year whose ratio is not corrected and of one whose is
  pub plain_alone : (year p : ℕ) → corrects year ≡ false → p ≡ plain_ratio_in f → made p 0 0 0 ≡ correction_in year f
  unfolding correction_in
  plain_alone year p ec ep = rw (ec, ep)

  pub corrected : (year p b y d : ℕ) → corrects year ≡ true → p ≡ plain_ratio_in f → b ≡ latest_reported_in f → y ≡ nat_abs (latest_paid_in f) → d ≡ divisor_in f
      → made p b y d ≡ correction_in year f
  unfolding correction_in
  corrected year p b y d ec ep eb ey ed = rw (ec, ep, eb, ey, ed)
