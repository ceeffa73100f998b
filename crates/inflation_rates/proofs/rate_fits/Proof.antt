-- Assumes nothing.
use mathlib.Core.Path.{◌∙◌}
use lib.Ieee.{of_bits, neg}
use Rattle.inflation_rates.proofs.Rates.{rate_fits_is}
use Rattle.inflation_rates.proofs.rate_fits.Statement.{statement}
use Rattle.inflation_rates.proofs.rate_fits.Tie as tie

returns : tie.Need-returns-then-rate
unfolding of_bits neg
returns c = rw c.if-rate.true at (rate_fits_is c.before.args.rate)

returns-2 : tie.Need-returns-else-rate
unfolding of_bits neg
returns-2 c = c.if-rate.false ∙ (rw c.if-rate.false at (rate_fits_is c.before.args.rate))

pub rate_fits_spec : {M : Type 1} → statement M
rate_fits_spec = tie.close (tie.spec returns returns-2)
