-- On the page of HTML alone. Assumes nothing.
use Rattle.parts.specs.Parts.{beside_start}
use borrow.Author.Rules.{rules}
use Rattle.parts.proofs.put_beside_start.Statement.{statement}
use Rattle.parts.proofs.put_beside_start.Tie as tie

returns : tie.Need-returns
unfolding beside_start
returns c = c.before.before.put_only.ensures

pub put_beside_start_spec : {M : Type 1} → statement M
put_beside_start_spec =
    tie.close
    (tie.spec
    (λ c κs. search rules)
    (λ c. search rules)
    returns)
