-- The other text is none. Assumes nothing.
use Rattle.parts.specs.Parts.{only}
use borrow.Author.Rules.{rules}
use Rattle.parts.proofs.put_only.Statement.{statement}
use Rattle.parts.proofs.put_only.Tie as tie

returns : tie.Need-returns
unfolding only
returns c = c.before.before.put_either.ensures

pub put_only_spec : {M : Type 1} → statement M
put_only_spec =
    tie.close
    (tie.spec
    (λ c κs. search rules)
    (λ c. search rules)
    returns)
