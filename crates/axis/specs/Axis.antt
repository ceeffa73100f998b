-- The axis of a plot: bars stand on a line at zero, ticks go up from it by round steps, and down where a value is below zero. Assumes nothing.
use Rattle.std.specs.Prelude.{ℕ, zero, suc, ◌+◌, ◌-◌, ◌*◌, ◌/◌, ◌≤◌, max, Bool, cond, leb, ℤ, pos, negsuc}
use Rattle.axis.specs.declared.Scale.{Scale}

-- 2 × 10^16, the most of a plotted size, so that its height in steps stays within 64 bits
abbrev pub most_plotted : ℕ
most_plotted = 20000000000000000

-- S / 100, the most of a value's units that make one of the axis: percent of billionths
abbrev pub most_one : ℕ
most_one = 10000000

-- how far a value is above zero, or below it
unfoldable pub side_of : Bool → ℤ → ℕ
side_of low (pos n) = cond low 0 n
side_of low (negsuc n) = cond low (suc n) 0

-- the first of s × 1, 2 and 5 whose fivefold is at least the largest size
unfoldable pub in_decade : ℕ → ℕ → ℕ
in_decade s largest = cond (leb largest (5 * s)) s (cond (leb largest (10 * s)) (2 * s) (5 * s))

-- the first of s × 1, 2, 5, 10, 20, 50, .. that is: in the first decade whose last, s × 5, is one; where n decades are enough
unfoldable pub step_in : ℕ → ℕ → ℕ → ℕ
step_in zero s largest = s
step_in (suc n) s largest = cond (leb largest (25 * s)) (in_decade s largest) (step_in n (10 * s) largest)

-- a step of the axis: a size up to most_plotted takes at most 17 decades
unfoldable pub step_for : ℕ → ℕ → ℕ
step_for one largest = step_in 17 one largest

-- how many steps it takes to reach a size
abbrev pub steps_to : ℕ → ℕ → ℕ
steps_to size step = (size + (step - 1)) / step

-- at least one step up, as many down as are needed, and the height of a tick: 180 for all
unfoldable pub scale_with : ℕ → ℕ → ℕ → Scale
scale_with step up down = record { step = step; up = up; down = down; tick = 180 / (up + down) }

-- by the largest value, 0 at least, and the largest size of a value below 0
unfoldable pub scale_of : ℕ → ℕ → ℕ → Scale
scale_of one high low =
    scale_with (step_for one (max high low)) (max 1 (steps_to high (step_for one (max high low)))) (steps_to low (step_for one (max high low)))

-- the line at zero, and the lowest
unfoldable pub zero_line : Scale → ℕ
zero_line s = 24 + s.tick * s.up

unfoldable pub foot_line : Scale → ℕ
foot_line s = 24 + s.tick * (s.up + s.down)

-- the height of a size, a part of a step rounded down
unfoldable pub height_of : Scale → ℕ → ℕ
height_of s size = s.tick * size / s.step

-- the largest of 1, 10^3, 10^6 and 10^9 that a step has at least one of: the axis is in these
unfoldable pub unit_of : ℕ → ℕ → ℕ
unit_of one step =
    cond (leb (one * 1000000000) step) 1000000000 (cond (leb (one * 1000000) step) 1000000 (cond (leb (one * 1000) step) 1000 1))

-- a step as the axis shows it
unfoldable pub shown_step : ℕ → ℕ → ℕ
shown_step one step = step / (one * unit_of one step)

-- what the code asks of a scale
pub record Sound (s : Scale) : Type 0 where
  pub some : 1 ≤ s.step
  pub most : s.step ≤ 5 * most_plotted
  pub up_most : s.up ≤ 5
  pub down_most : s.down ≤ 5
  pub tick_most : s.tick ≤ 180
  pub high : s.tick * (s.up + s.down) ≤ 180
