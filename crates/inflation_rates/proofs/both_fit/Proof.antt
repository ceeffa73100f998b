-- Assumes nothing.
use borrow.Author.Rules.{rules}
use Rattle.inflation_rates.proofs.Rates.{and_then, and_else}
use Rattle.inflation_rates.proofs.both_fit.Statement.{statement}
use Rattle.inflation_rates.proofs.both_fit.Tie as tie

rate-fits-requires : tie.Need-rate_fits-requires
rate-fits-requires c κs = search rules

rate-fits-requires-2 : tie.Need-rate_fits-requires-then-rate_fits
rate-fits-requires-2 c κs = search rules

returns : tie.Need-returns-then-rate_fits
returns c = and_then _ _ _ _ c.before.before.rate_fits.ensures c.before.if-rate_fits.true c.rate_fits-then-rate_fits.ensures

returns-2 : tie.Need-returns-else-rate_fits
returns-2 c = and_else _ _ _ c.before.rate_fits.ensures c.if-rate_fits.false

pub both_fit_spec : {M : Type 1} → statement M
both_fit_spec = tie.close (tie.spec rate-fits-requires rate-fits-requires-2 returns returns-2)
