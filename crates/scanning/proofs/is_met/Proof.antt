-- By what is wanted. Assumes nothing.
use mathlib.Core.Bool.{not}
use mathlib.Core.Path.{ap}
use borrow.Author.Rules.{rules}
use Rattle.scanning.proofs.is_met.Statement.{statement}
use Rattle.scanning.proofs.is_met.Tie as tie

returns : tie.Need-returns-then-wanted
returns c = rw c.before.if-wanted.true c.is_among.ensures

returns-2 : tie.Need-returns
returns-2 c = rw c.before.if-wanted.false (ap not c.is_among-2.ensures)

pub is_met_spec : {M : Type 1} → statement M
is_met_spec = tie.close (tie.spec (λ c κs. search rules) returns (λ c κs. search rules) returns-2)
