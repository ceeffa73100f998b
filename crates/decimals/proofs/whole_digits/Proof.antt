-- Cut at the point. Assumes nothing.
use mathlib.Core.Path.{◌∙◌}
use Rattle.decimals.specs.Decimals.{whole_digits}
use borrow.Author.Rules.{rules}
use Rattle.decimals.proofs.whole_digits.Statement.{statement}
use Rattle.decimals.proofs.whole_digits.Tie as tie

returns : tie.Need-returns
unfolding whole_digits
returns c = c.until.ensures ∙ rw c.before.before.before.unsigned_of.ensures

pub whole_digits_spec : {M : Type 1} → statement M
whole_digits_spec = tie.close (tie.spec
    (λ c κs. search rules)
    (λ c κs. search rules)
    returns)
