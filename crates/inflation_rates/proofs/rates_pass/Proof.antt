-- Assumes nothing.
use Rattle.rules.specs.Inflation.{rates_pass}
use Rattle.inflation_rates.proofs.Rates.{and_then, and_else}
use borrow.Author.Rules.{rules}
use Rattle.inflation_rates.proofs.rates_pass.Statement.{statement}
use Rattle.inflation_rates.proofs.rates_pass.Tie as tie

lies-between-requires : tie.Need-lies_between-requires
lies-between-requires c κs = search rules

shape-fits-requires : tie.Need-shape_fits-requires
shape-fits-requires c κs = search rules

returns : tie.Need-returns-then-lies_between
unfolding rates_pass
returns c = and_then _ _ _ _ c.before.before.lies_between.ensures c.before.if-lies_between.true c.shape_fits.ensures

returns-2 : tie.Need-returns-else-lies_between
unfolding rates_pass
returns-2 c = and_else _ _ _ c.before.lies_between.ensures c.if-lies_between.false

pub rates_pass_spec : {M : Type 1} → statement M
rates_pass_spec = tie.close (tie.spec lies-between-requires shape-fits-requires returns returns-2)
