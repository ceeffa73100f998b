-- Assumes nothing.
use mathlib.Core.Path.{sym, ◌∙◌}
use Rattle.inflation_rates.proofs.Rates.{and_then, and_else, flat_fits, fading_fits, shock_fits}
use Rattle.inflation_rates.proofs.shape_fits.Goals as goal

pub returns-in-Flat : goal.returns-in-Flat
returns-in-Flat c = c.rate_fits.ensures ∙ sym (flat_fits _ _ _ c.in-Flat.is)

pub returns-in-Fading : goal.returns-in-Fading
returns-in-Fading c = c.both_fit.ensures ∙ sym (fading_fits _ _ _ _ c.in-Fading.is)

pub returns-then-both_fit : goal.returns-then-both_fit
returns-then-both_fit c = and_then _ _ _ _ c.both_fit-in-Shock.ensures c.if-both_fit.true c.lies_between.ensures ∙ sym (shock_fits _ _ _ _ _ c.in-Shock.is)

pub returns-else-both_fit : goal.returns-else-both_fit
returns-else-both_fit c = and_else _ _ _ c.both_fit-in-Shock.ensures c.if-both_fit.false ∙ sym (shock_fits _ _ _ _ _ c.in-Shock.is)
