-- By whether the development year is 0. Assumes nothing.
use borrow.Author.Tests.{eq-eqb, ne_eqb}
use Rattle.hindsight_cells.specs.Cells.{forecast_at}
use borrow.Author.Rules.{rules}
use Rattle.hindsight_cells.proofs.is_forecast.Statement.{statement}
use Rattle.hindsight_cells.proofs.is_forecast.Tie as tie

returns : tie.Need-returns-then-j-eq0
unfolding forecast_at
returns c = rw (eq-eqb _ _ c.if-j-eq0.true)

returns-2 : tie.Need-returns-else-j-eq0
unfolding forecast_at
returns-2 c = rw (ne_eqb _ _ c.if-j-eq0.false)

pub is_forecast_spec : {M : Type 1} → statement M
is_forecast_spec =
    tie.close
    (tie.spec
    (λ c. search rules)
    returns
    returns-2)
