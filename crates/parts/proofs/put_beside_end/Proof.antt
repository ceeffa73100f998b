-- On the page of HTML alone. Assumes nothing.
use Rattle.parts.specs.Parts.{beside_end}
use borrow.Author.Rules.{rules}
use Rattle.parts.proofs.put_beside_end.Statement.{statement}
use Rattle.parts.proofs.put_beside_end.Tie as tie

returns : tie.Need-returns
unfolding beside_end
returns c = c.before.before.put_only.ensures

pub put_beside_end_spec : {M : Type 1} → statement M
put_beside_end_spec =
    tie.close
    (tie.spec
    (λ c κs. search rules)
    (λ c. search rules)
    returns)
