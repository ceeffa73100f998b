-- The product is at most 5 × 10^15. Assumes nothing.
use borrow.Author.Rules.{rules}
use native.Mathlib.Nat.{mul-le-mul}
use native.Mathlib.Omega.{arith}
use mathlib.Core.Path.{refl}
use Rattle.rules.specs.Tail.{tail_average}
use Rattle.tail_findings.proofs.tail_average.Statement.{statement}
use Rattle.tail_findings.proofs.tail_average.Tie as tie

product : tie.Need-overflow_mul-result
product c = omega (arith, mul-le-mul c.before.before.requires.1.0 c.before.before.requires.1.1.1)

returns : tie.Need-returns
unfolding tail_average
returns c = refl

pub tail_average_spec : {M : Type 1} → statement M
tail_average_spec =
    tie.close
    (tie.spec
    (λ c. search rules)
    (λ c. search rules)
    product
    (λ c. search rules)
    (λ c. search rules)
    returns)
