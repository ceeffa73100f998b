-- One text or the other. Assumes nothing.
use Rattle.parts.specs.Parts.{either}
use borrow.Author.Rules.{rules}
use Rattle.parts.proofs.put_either.Statement.{statement}
use Rattle.parts.proofs.put_either.Tie as tie

returns : tie.Need-returns-then-html
unfolding either
returns c = rw c.before.before.before.before.if-html.true c.before.before.put_bytes.ensures

returns-2 : tie.Need-returns-else-html
unfolding either
returns-2 c = rw c.before.before.before.before.if-html.false c.before.before.put_bytes-else-html.ensures

pub put_either_spec : {M : Type 1} → statement M
put_either_spec =
    tie.close
    (tie.spec (λ c κs. search rules) (λ c κs. search rules) (λ c. search rules) returns (λ c. search rules) returns-2)
