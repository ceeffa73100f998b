-- A year, or a rate. Assumes nothing.
use mathlib.Core.Path.{◌∙◌}
use Rattle.inflation_line.proofs.Lines.{due_year, due_rate}
use borrow.Author.Rules.{rules}
use Rattle.inflation_line.proofs.is_due.Statement.{statement}
use Rattle.inflation_line.proofs.is_due.Tie as tie

pub is_due_spec : {M : Type 1} → statement M
is_due_spec =
    tie.close
    (tie.spec
    (λ c κs. search rules)
    (λ c. c.is_natural.ensures ∙ due_year _ _ c.before.if-n-eq3.true)
    (λ c κs. search rules)
    (λ c. c.is_rate.ensures ∙ due_rate _ _ c.before.if-n-eq3.false))
