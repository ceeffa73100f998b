-- Assumes nothing.
use Rattle.inflation_rates.proofs.Rates.{flat_next, fading_first, shock_now, shock_other}
use Rattle.inflation_rates.proofs.first_rate.Goals as goal

pub returns-in-Flat : goal.returns-in-Flat
returns-in-Flat c = flat_next _ 0 _ c.in-Flat.is

pub returns-in-Fading : goal.returns-in-Fading
returns-in-Fading c = fading_first _ 0 _ _ c.in-Fading.is

pub returns-then-year-eq1 : goal.returns-then-year-eq1
returns-then-year-eq1 c = shock_now _ 0 _ _ _ c.in-Shock.is c.if-year-eq1.true

pub returns-else-year-eq1 : goal.returns-else-year-eq1
returns-else-year-eq1 c = shock_other _ 0 _ _ _ c.in-Shock.is c.if-year-eq1.false
