-- The byte is one of three. Assumes nothing.
use borrow.Author.Rules.{rules}
use Rattle.separating.proofs.does_decide.Statement.{statement}
use Rattle.separating.proofs.does_decide.Tie as tie

returns : tie.Need-returns
returns c = c.is_among.ensures

pub does_decide_spec : {M : Type 1} → statement M
does_decide_spec = tie.close (tie.spec
    (λ c κs. search rules)
    returns)
