-- Assumes nothing.
use borrow.Author.Tests.{le-leb, lt-leb}
use Rattle.inflation_rates.proofs.lies_between.Statement.{statement}
use Rattle.inflation_rates.proofs.lies_between.Tie as tie

returns : tie.Need-returns-then-least-x
returns c = rw (le-leb _ _ c.if-least-x.true)

returns-2 : tie.Need-returns-else-least-x
returns-2 c = rw (lt-leb _ _ c.if-least-x.false)

pub lies_between_spec : {M : Type 1} → statement M
lies_between_spec = tie.close (tie.spec returns returns-2)
