-- By whether there is such an origin year. Assumes nothing.
use Rattle.rules.specs.History.{development_years}
use borrow.Author.Rules.{rules}
use Rattle.history_sheet.proofs.increments_at.Statement.{statement}
use Rattle.history_sheet.proofs.increments_at.Tie as tie

returns-2 : tie.Need-returns-else-i-years
unfolding development_years
returns-2 c = search rules

pub increments_at_spec : {M : Type 1} → statement M
increments_at_spec = tie.close (tie.spec (λ c κs. search rules) (λ c. search rules) returns-2)
