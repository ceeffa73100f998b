-- The product is far below 2^64. Assumes nothing.
use native.Mathlib.Omega.{arith}
use mathlib.Core.Path.{refl}
use native.Mathlib.Nat.{mul-le-mul}
use Rattle.axis.specs.Axis.{most_plotted, height_of}
use borrow.Author.Rules.{rules}
use Rattle.axis.proofs.height_of.Statement.{statement}
use Rattle.axis.proofs.height_of.Tie as tie

mul-result : tie.Need-overflow_mul-result
mul-result c = omega (arith, mul-le-mul {n₂ = 180} {m₂ = most_plotted} c.before.requires.0.tick_most c.before.requires.1)

returns : tie.Need-returns
unfolding height_of
returns c = refl

pub height_of_spec : {M : Type 1} → statement M
height_of_spec =
    tie.close
    (tie.spec
    mul-result
    (λ c. search rules)
    returns)
