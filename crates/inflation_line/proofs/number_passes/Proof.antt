-- One of the two tests. Assumes nothing.
use borrow.Author.Rules.{rules}
use Rattle.inflation_line.proofs.number_passes.Statement.{statement}
use Rattle.inflation_line.proofs.number_passes.Tie as tie

pub number_passes_spec : {M : Type 1} → statement M
number_passes_spec =
    tie.close
    (tie.spec
    (λ c κs. search rules)
    (λ c. rw c.before.if-asked.true c.is_asked.ensures)
    (λ c κs. search rules)
    (λ c. rw c.before.if-asked.false c.is_due.ensures))
