-- The scale of a plot: the step found reaches the largest size in five, so there are at most five ticks up and five down, and a bar stays within them. Assumes nothing.
use mathlib.Core.Path.{◌≡◌, ap}
use mathlib.Core.Bool.{Bool, true, false}
use Prim.Native.Nat.{ℕ, zero, suc, ◌+◌, ◌-◌, ◌*◌, ◌^◌, ◌≤◌, ◌<◌, max}
use native.Mathlib.Decide.{dec_le}
use native.Mathlib.Nat.{pow-suc, div-lt_iff_lt-mul, div-le_of_le-mul, lt-div-mul-add, div-mul-le_self, div-le_self, mul-le-mul_left, mul-le-mul_right}
use native.Mathlib.Omega.{arith}
use borrow.Author.Tests.{le-leb, lt-leb}
use lib.IntN.{ℤ, pos, negsuc, nat_abs}
use Rattle.axis.specs.declared.Scale.{Scale}
use Rattle.axis.specs.Axis.{most_plotted, most_one, side_of, in_decade, step_in, step_for, steps_to, scale_with, scale_of, foot_line, height_of, unit_of, shown_step, Sound}

-- a step in its decade
decade_reaches : (s largest : ℕ) → largest ≤ 25 * s → largest ≤ 5 * in_decade s largest
unfolding in_decade
decade_reaches s largest h = go (dec_le largest (5 * s)) (dec_le largest (10 * s))
  where
    go : Dec (largest ≤ 5 * s) → Dec (largest ≤ 10 * s) → largest ≤ 5 * in_decade s largest
    go (yes l) m = rw (le-leb largest (5 * s) l) l
    go (no l) (yes m) = rw (lt-leb largest (5 * s) (omega arith), le-leb largest (10 * s) m) (omega arith)
    go (no l) (no m) = rw (lt-leb largest (5 * s) (omega arith), lt-leb largest (10 * s) (omega arith)) (omega arith)

decade_bounds : (s largest : ℕ) → (s ≤ in_decade s largest) × (in_decade s largest ≤ 5 * s)
unfolding in_decade
decade_bounds s largest = go (dec_le largest (5 * s)) (dec_le largest (10 * s))
  where
    go : Dec (largest ≤ 5 * s) → Dec (largest ≤ 10 * s) → (s ≤ in_decade s largest) × (in_decade s largest ≤ 5 * s)
    go (yes l) m = rw (le-leb largest (5 * s) l) (omega arith, omega arith)
    go (no l) (yes m) = rw (lt-leb largest (5 * s) (omega arith), le-leb largest (10 * s) m) (omega arith, omega arith)
    go (no l) (no m) = rw (lt-leb largest (5 * s) (omega arith), lt-leb largest (10 * s) (omega arith)) (omega arith, omega arith)

-- in this decade, and in a later one
pub step_here : (n s largest : ℕ) → largest ≤ 25 * s → step_in (suc n) s largest ≡ in_decade s largest
unfolding step_in
step_here n s largest h = rw (le-leb largest (25 * s) h)

pub step_later : (n s largest : ℕ) → 25 * s < largest → step_in (suc n) s largest ≡ step_in n (10 * s) largest
unfolding step_in
step_later n s largest h = rw (lt-leb largest (25 * s) h)

-- five steps reach the largest size, where there are decades enough
reaches : (n s largest : ℕ) → largest ≤ 25 * (s * 10 ^ n) → largest ≤ 5 * step_in (suc n) s largest
reaches zero s largest h =
    let l : largest ≤ 25 * s = omega arith in
    rw (step_here 0 s largest l) (decade_reaches s largest l)
reaches (suc n) s largest h = go (dec_le largest (25 * s)) (reaches n (10 * s) largest (omega (arith, h, ap (λ (z : ℕ). s * z) (pow-suc 10 n))))
  where
    go : Dec (largest ≤ 25 * s) → largest ≤ 5 * step_in (suc n) (10 * s) largest → largest ≤ 5 * step_in (suc (suc n)) s largest
    go (yes l) later = rw (step_here (suc n) s largest l) (decade_reaches s largest l)
    go (no l) later = rw (step_later (suc n) s largest (omega arith)) later

-- a step is above zero, and far below 2^64
bounds : (n s largest : ℕ) → largest ≤ most_plotted → s ≤ most_plotted → (s ≤ step_in n s largest) × (step_in n s largest ≤ 5 * most_plotted)
unfolding step_in
bounds zero s largest l m = (omega arith, omega arith)
bounds (suc n) s largest l m = go (dec_le largest (25 * s)) (bounds n (10 * s) largest l)
  where
    go : Dec (largest ≤ 25 * s) → (10 * s ≤ most_plotted → (10 * s ≤ step_in n (10 * s) largest) × (step_in n (10 * s) largest ≤ 5 * most_plotted))
        → (s ≤ step_in (suc n) s largest) × (step_in (suc n) s largest ≤ 5 * most_plotted)
    go (yes h) later =
        let d = decade_bounds s largest in
        rw (step_here n s largest h) (d.0, omega (arith, d.1))
    go (no h) later =
        let p = later (omega arith) in
        rw (step_later n s largest (omega arith)) (omega (arith, p.0), p.1)

pub step_reaches : (one largest : ℕ) → 1 ≤ one → largest ≤ most_plotted → largest ≤ 5 * step_for one largest
unfolding step_for
step_reaches one largest h l = reaches 16 one largest (omega arith)

pub step_bounds : (one largest : ℕ) → 1 ≤ one → one ≤ most_one → largest ≤ most_plotted → (1 ≤ step_for one largest) × (step_for one largest ≤ 5 * most_plotted)
unfolding step_for
step_bounds one largest h m l =
    let p = bounds 17 one largest l (omega arith) in
    (omega (arith, p.0), p.1)

-- the steps to a size reach it, and are five at most
steps_reach : (size step : ℕ) → 1 ≤ step → size ≤ steps_to size step * step
steps_reach size step h = omega (arith, lt-div-mul-add {a = size + (step - 1)} {b = step} h)

steps_most : (size step : ℕ) → 1 ≤ step → size ≤ 5 * step → steps_to size step ≤ 5
steps_most size step h l =
    let f : steps_to size step < 6 = (div-lt_iff_lt-mul {k = step} {x = size + (step - 1)} {y = 6} h).1 (omega arith) in
    omega arith

-- a scale has at least one tick up and at most five, at most five down, and 180 for all of them
pub sound : (one high low : ℕ) → 1 ≤ one → one ≤ most_one → high ≤ most_plotted → low ≤ most_plotted → Sound (scale_of one high low)
unfolding scale_of scale_with
sound one high low h m u d =
    let largest = max high low in
    let step = step_for one largest in
    let p = step_bounds one largest h m (omega arith) in
    let reach = step_reaches one largest h (omega arith) in
    let up = max 1 (steps_to high step) in
    let down = steps_to low step in
    let most-up = steps_most high step p.0 (omega (arith, reach)) in
    record {
      some = p.0;
      most = p.1;
      up_most = omega (arith, most-up);
      down_most = steps_most low step p.0 (omega (arith, reach));
      tick_most = div-le_self 180 (up + down);
      high = div-mul-le_self 180 (up + down);
    }

-- the ticks up reach every value
pub up_reaches : (one high low : ℕ) → 1 ≤ one → one ≤ most_one → high ≤ most_plotted → low ≤ most_plotted → high ≤ (scale_of one high low).up * (scale_of one high low).step
unfolding scale_of scale_with
up_reaches one high low h m u d =
    let step = step_for one (max high low) in
    let p = step_bounds one (max high low) h m (omega arith) in
    let more : steps_to high step ≤ max 1 (steps_to high step) = omega arith in
    omega (arith, steps_reach high step p.0, mul-le-mul_right step more)

-- a bar of such a value is no higher than the ticks up
pub height_most : (s : Scale) (size : ℕ) → size ≤ s.up * s.step → height_of s size ≤ s.tick * s.up
unfolding height_of
height_most s size h = div-le_of_le-mul s.step (omega (arith, mul-le-mul_left s.tick h))

-- a unit
pub unit_bounds : (one step : ℕ) → (1 ≤ unit_of one step) × (unit_of one step ≤ 1000000000)
unfolding unit_of
unit_bounds one step = go (dec_le (one * 1000000000) step) (dec_le (one * 1000000) step) (dec_le (one * 1000) step)
  where
    go : Dec (one * 1000000000 ≤ step) → Dec (one * 1000000 ≤ step) → Dec (one * 1000 ≤ step) → (1 ≤ unit_of one step) × (unit_of one step ≤ 1000000000)
    go (yes h) l m = rw (le-leb (one * 1000000000) step h) (omega arith, omega arith)
    go (no h) (yes l) m = rw (lt-leb (one * 1000000000) step (omega arith), le-leb (one * 1000000) step l) (omega arith, omega arith)
    go (no h) (no l) (yes m) =
        rw (lt-leb (one * 1000000000) step (omega arith), lt-leb (one * 1000000) step (omega arith), le-leb (one * 1000) step m) (omega arith, omega arith)
    go (no h) (no l) (no m) =
        rw (lt-leb (one * 1000000000) step (omega arith), lt-leb (one * 1000000) step (omega arith), lt-leb (one * 1000) step (omega arith)) (omega arith, omega arith)

-- one side of a value is at most its size
pub side_most : (low : Bool) (z : ℤ) → side_of low z ≤ nat_abs z
unfolding side_of
side_most true (pos n) = omega arith
side_most true (negsuc n) = omega arith
side_most false (pos n) = omega arith
side_most false (negsuc n) = omega arith

-- a step as it is shown is no larger, and the lowest line is at most at 204
pub shown_most : (one step : ℕ) → shown_step one step ≤ step
unfolding shown_step
shown_most one step = div-le_self step (one * unit_of one step)

pub foot_most : (s : Scale) → Sound s → foot_line s ≤ 204
unfolding foot_line
foot_most s h = omega (arith, h.high)

-- a size is on one of the sides
pub sides : (z : ℤ) → nat_abs z ≤ max (side_of false z) (side_of true z)
unfolding side_of
sides (pos n) = omega arith
sides (negsuc n) = omega arith

-- five steps of a scale reach every size
pub scale_reaches : (one high low : ℕ) → 1 ≤ one → high ≤ most_plotted → low ≤ most_plotted → max high low ≤ 5 * (scale_of one high low).step
unfolding scale_of scale_with
scale_reaches one high low h u d = step_reaches one (max high low) h (omega arith)
