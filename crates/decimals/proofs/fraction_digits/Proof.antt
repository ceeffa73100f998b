-- Cut at the point. Assumes nothing.
use mathlib.Core.Path.{◌∙◌}
use Rattle.decimals.specs.Decimals.{fraction_digits}
use borrow.Author.Rules.{rules}
use Rattle.decimals.proofs.fraction_digits.Statement.{statement}
use Rattle.decimals.proofs.fraction_digits.Tie as tie

returns : tie.Need-returns
unfolding fraction_digits
returns c = c.past.ensures ∙ rw c.before.before.before.unsigned_of.ensures

pub fraction_digits_spec : {M : Type 1} → statement M
fraction_digits_spec = tie.close (tie.spec
    (λ c κs. search rules)
    (λ c κs. search rules)
    returns)
