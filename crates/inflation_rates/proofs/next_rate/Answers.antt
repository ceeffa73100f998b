-- Assumes nothing.
use native.Mathlib.Omega.{arith}
use Prim.Native.Nat.{◌+◌}
use lib.Ieee.{of_bits}
use Rattle.inflation_rates.proofs.Rates.{flat_next, fading_next, shock_now, shock_other}
use Rattle.inflation_rates.proofs.next_rate.Goals as goal

pub returns-in-Flat : goal.returns-in-Flat
returns-in-Flat c = flat_next _ (c.args.n + 1) _ c.in-Flat.is

pub returns-in-Fading : goal.returns-in-Fading
unfolding of_bits
returns-in-Fading c = fading_next _ _ _ _ _ c.in-Fading.is c.requires.1

pub returns-then-year-n : goal.returns-then-year-n
returns-then-year-n c = shock_now _ (c.args.n + 1) _ _ _ c.in-Shock.is (omega arith)

pub returns-else-year-n : goal.returns-else-year-n
returns-else-year-n c = shock_other _ (c.args.n + 1) _ _ _ c.in-Shock.is (λ e. c.if-year-n.false (omega arith))
