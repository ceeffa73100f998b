-- A level above S is a number above the most (first_above). Assumes nothing.
use Rattle.factor_findings.specs.FactorFindings.{refused_level}
use borrow.Author.Rules.{rules}
use Rattle.factor_findings.proofs.first_level.Statement.{statement}
use Rattle.factor_findings.proofs.first_level.Tie as tie

returns : tie.Need-returns
unfolding refused_level
returns c = c.first_above.ensures

pub first_level_spec : {M : Type 1} → statement M
first_level_spec = tie.close (tie.spec (λ c. search rules) (λ c κs. search rules) returns)
