-- The largest share on one side of zero: one position more, how large it is at most, and that the ticks reach every share. Assumes nothing.
use mathlib.Core.Path.{◌≡◌, refl}
use mathlib.Core.Bool.{Bool, true, false, cond}
use mathlib.Core.List.{List}
use Prim.Native.Nat.{ℕ, zero, suc, ◌+◌, ◌*◌, ◌≤◌, ◌<◌, max}
use native.Mathlib.Decide.{dec_lt}
use native.Mathlib.Nat.{not-suc-le-zero}
use native.Mathlib.Numerals.{add-one}
use native.Mathlib.Omega.{arith}
use lib.IntN.{ℤ, nat_abs}
use Rattle.axis.specs.Axis.{most_plotted, most_one, side_of, Sound}
use Rattle.axis.proofs.Axis.{side_most, sides, sound, up_reaches, scale_reaches}
use Rattle.history_places.specs.Places.{position_entry, Small}
use Rattle.drift_scale.specs.Scales.{share_at, largest_share, in_percent, one_for, drift_scale}

pub largest_none : (low : Bool) (list : List ℤ) (width j : ℕ) → 0 ≡ largest_share low list width j 0
unfolding largest_share
largest_none low list width j = refl

pub largest_more : (low : Bool) (list : List ℤ) (width j n : ℕ)
    → max (largest_share low list width j n) (side_of low (share_at list width j n)) ≡ largest_share low list width j (n + 1)
unfolding largest_share
largest_more low list width j n = rw (add-one n)

-- one of the axis
pub one_bounds : (high : ℕ) → (1 ≤ one_for high) × (one_for high ≤ most_one)
unfolding one_for
one_bounds high = go (in_percent high)
  where
    go : (t : Bool) → (1 ≤ cond t 10000000 10000) × (cond t 10000000 10000 ≤ most_one)
    go true = (omega arith, omega arith)
    go false = (omega arith, omega arith)

module _ (list : List ℤ) (width j : ℕ) where
  -- no share is above one whole
  pub share_most : Small list → (a : ℕ) → nat_abs (share_at list width j a) ≤ 1000000000
  unfolding position_entry
  share_most small a = small (a * (1 + 2 * width) + (1 + j))

  pub largest_most : Small list → (low : Bool) (n : ℕ) → largest_share low list width j n ≤ most_plotted
  unfolding largest_share
  largest_most small low zero = omega arith
  largest_most small low (suc n) =
      omega (arith, largest_most small low n, side_most low (share_at list width j n), share_most small n)

  share_within : (low : Bool) (n a : ℕ) → a < n → side_of low (share_at list width j a) ≤ largest_share low list width j n
  unfolding largest_share
  share_within low zero a h = absurd (not-suc-le-zero h)
  share_within low (suc n) a h = go (share_within low n a) (dec_lt a n)
    where
      go : (a < n → side_of low (share_at list width j a) ≤ largest_share low list width j n) → Dec (a < n)
          → side_of low (share_at list width j a) ≤ largest_share low list width j (suc n)
      go before (yes l) = omega (arith, before l)
      go before (no l) =
          let e : a ≡ n = omega arith in
          rw e (omega arith)

  module _ (small : Small list) (n : ℕ) where
    pub scale_sound : Sound (drift_scale list width j n)
    unfolding drift_scale
    scale_sound =
        let high = largest_share false list width j n in
        sound (one_for high) high (largest_share true list width j n) (one_bounds high).0 (one_bounds high).1 (largest_most small false n) (largest_most small true n)

    -- the ticks up reach every share, and five steps its size
    pub share_reached : (a : ℕ) → a < n → side_of false (share_at list width j a) ≤ (drift_scale list width j n).up * (drift_scale list width j n).step
    unfolding drift_scale
    share_reached a h =
        let high = largest_share false list width j n in
        omega
        (arith, share_within false n a h, up_reaches (one_for high) high (largest_share true list width j n) (one_bounds high).0 (one_bounds high).1 (largest_most small false n) (largest_most small true n))

    pub share_five : (a : ℕ) → a < n → nat_abs (share_at list width j a) ≤ 5 * (drift_scale list width j n).step
    unfolding drift_scale
    share_five a h =
        let high = largest_share false list width j n in
        omega
        (arith, sides (share_at list width j a), share_within false n a h, share_within true n a h, scale_reaches (one_for high) high (largest_share true list width j n) (one_bounds high).0 (largest_most small false n) (largest_most small true n))
