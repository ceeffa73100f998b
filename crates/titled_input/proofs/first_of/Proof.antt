-- The two bytes. Assumes nothing.
use native.Mathlib.Omega.{arith}
use Rattle.valuation.specs.Valuation.{pair_at}
use Rattle.titled_input.specs.Titled.{first_in}
use borrow.Author.Rules.{rules}
use Rattle.titled_input.proofs.first_of.Statement.{statement}
use Rattle.titled_input.proofs.first_of.Tie as tie

returns : tie.Need-returns
unfolding first_in pair_at
returns c = (omega (arith, c.before.byte_at-high.ensures.0, c.byte_at-low.ensures.0), omega (arith, c.before.byte_at-high.ensures.1, c.byte_at-low.ensures.1))

pub first_of_spec : {M : Type 1} → statement M
first_of_spec =
    tie.close
    (tie.spec
    (λ c κs. search rules)
    (λ c κs. search rules)
    (λ c. search rules)
    (λ c. search rules)
    returns)
