-- What questions 15, 16 and 17 answer where each in turn says no or yes, and the ratio that is used then, by the code's tests. Assumes nothing.
use Prim.Native.Nat.{ℕ, ◌*◌, ◌/◌, ◌^◌, ◌≤◌, ◌<◌}
use native.Mathlib.Omega.{arith}
use borrow.Author.Tests.{le-leb, lt-leb}
use mathlib.Core.Path.{◌≡◌, refl}
use mathlib.Core.Bool.{true, false}
use lib.IntN.{ℤ, pos, nat_abs}
use lib.Dec.{leb}
use lib.Signed.{lt_z, le_z}
use mir.Facts.{to_z-of_z}
use Rattle.rules.specs.Questions.{first_no, after_call}
use Rattle.rules.specs.Record.{million}
use Rattle.rules.specs.Growth.{corrects, latest_paid_passes, divisor_of, divisor_passes, corrected_ratio, corrected_ratio_passes, growth_questions, used_ratio}
use Rattle.laws.proofs.Order.{less_yes, less_no}
use Rattle.laws.proofs.Signed.{held, size_fits}
use Rattle.correcting.specs.UsedRatio.{RatioAnswers}

-- the divisor is that of Y, whatever its sign
pub divisor_read : (w r : ℕ) (z : ℤ) → nat_abs z < 2 ^ 63 → divisor_of w r (pos (nat_abs (held z))) ≡ divisor_of w r z
unfolding divisor_of
divisor_read w r z h = rw (to_z-of_z (size_fits z h))

module _ (year plain divisor : ℕ) (paid : ℤ) where
  pub earlier : corrects year ≡ false → RatioAnswers year plain paid divisor 0 plain
  unfolding growth_questions used_ratio first_no after_call
  earlier e = rw e (refl, refl)

  module _ (from : corrects year ≡ true) (small : nat_abs paid < 2 ^ 63) where
    pub fifteen : lt_z (held paid) (pos 1) ≡ true → RatioAnswers year plain paid divisor 15 plain
    unfolding growth_questions latest_paid_passes first_no after_call
    fifteen q =
        let no = less_yes paid (pos 1) (rw (to_z-of_z (size_fits paid small)) at q) in
        rw (from, no) (refl, refl)

    module _ (some : lt_z (held paid) (pos 1) ≡ false) where
      q15 : le_z (pos 1) paid ≡ true
      q15 = less_no paid (pos 1) (rw (to_z-of_z (size_fits paid small)) at some)

      pub sixteen : divisor ≡ 0 → RatioAnswers year plain paid divisor 16 plain
      unfolding growth_questions latest_paid_passes divisor_passes first_no after_call
      sixteen q = rw (from, q15, q) (refl, refl)

      module _ (whole : divisor ≡ 0 → ⊥) where
        q16 : leb 1 divisor ≡ true
        q16 = le-leb 1 divisor (omega (arith, whole))

        pub seventeen : million < plain * million / divisor → RatioAnswers year plain paid divisor 17 plain
        unfolding growth_questions latest_paid_passes divisor_passes corrected_ratio corrected_ratio_passes first_no after_call
        seventeen q = rw (from, q15, q16, lt-leb (plain * million / divisor) million q) (refl, refl)

        pub corrected : plain * million / divisor ≤ million → RatioAnswers year plain paid divisor 0 (plain * million / divisor)
        unfolding growth_questions latest_paid_passes divisor_passes corrected_ratio corrected_ratio_passes used_ratio first_no after_call
        corrected q = rw (from, q15, q16, le-leb (plain * million / divisor) million q) (refl, refl)
