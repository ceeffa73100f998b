-- The measures are 2 × h for the share and 2 × h + 1 for the level: each call falls by one. Assumes nothing.
use Prim.Native.Nat.{◌+◌, ◌*◌}
use Rattle.separation.proofs.+level_step_share_step.Given as goal

abbrev pub decreases-level_step : goal.decreases-level_step
decreases-level_step l = 2 * l.h + 1

abbrev pub decreases-share_step : goal.decreases-share_step
decreases-share_step l = 2 * l.h
