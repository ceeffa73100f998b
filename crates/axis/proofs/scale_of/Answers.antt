-- A step within its bounds (step_bounds), and the rest of it. Assumes nothing.
use native.Mathlib.Omega.{arith}
use mathlib.Core.Path.{◌≡◌, ◌∙◌}
use Prim.Native.Nat.{ℕ, ◌+◌, ◌*◌, ◌/◌, ◌≤◌, max}
use native.Mathlib.Nat.{max_comm}
use Rattle.axis.specs.declared.Scale.{Scale}
use Rattle.axis.specs.Axis.{most_plotted, most_one, step_for, steps_to, scale_with, scale_of}
use Rattle.axis.proofs.Axis.{step_bounds}
use Rattle.axis.proofs.scale_of.Goals as goal

-- the step that was found
found : {step largest : ℕ} (one high low : ℕ) → 1 ≤ one → one ≤ most_one → high ≤ most_plotted → low ≤ most_plotted → largest ≡ max high low → step ≡ step_for one largest
    → (1 ≤ step) × (step ≤ 5 * most_plotted)
found one high low h m u d e f = rw (f, e) (step_bounds one (max high low) h m (omega arith))

-- the scale of it
of-step : {step largest up down most : ℕ} (one high low : ℕ) → largest ≡ max high low → step ≡ step_for one largest → most ≡ steps_to high step → up ≡ max 1 most → down ≡ steps_to low step
    → ◌≡◌ {A = Scale} (record { step = step; up = up; down = down; tick = 180 / (up + down) }) (scale_of one high low)
unfolding scale_of scale_with
of-step one high low e f g h i = rw (h, i, g, f, e)

pub steps_to-requires : goal.steps_to-requires
steps_to-requires c =
    (c.requires.1.0, found c.args.one c.args.high c.args.low c.requires.0.0 c.requires.0.1 c.requires.1.0 c.requires.1.1 c.max.ensures c.step_for-step.ensures)

pub steps_to-down-requires : goal.steps_to-down-requires
steps_to-down-requires c =
    (c.requires.1.1, found c.args.one c.args.high c.args.low c.requires.0.0 c.requires.0.1 c.requires.1.0 c.requires.1.1 c.max.ensures c.step_for-step.ensures)

pub returns : goal.returns
returns c =
    of-step c.args.one c.args.high c.args.low c.max.ensures c.step_for-step.ensures c.steps_to.ensures (c.max-up.ensures ∙ max_comm c.steps_to.result 1) c.steps_to-down.ensures
