-- By which of the two texts it is. Assumes nothing.
use mathlib.Core.Path.{◌∙◌}
use borrow.Author.Rules.{rules}
use Rattle.history_sheet.proofs.Lines.{few_figures}
use Rattle.history_sheet.proofs.due_in.Statement.{statement}
use Rattle.history_sheet.proofs.due_in.Tie as tie

returns : tie.Need-returns-then-history
returns c = c.history_due_at.ensures ∙ rw c.before.if-history.true

due-at-requires : tie.Need-due_at-requires
due-at-requires c κs = few_figures c.before.args.history _ c.if-history.false c.before.requires

returns-2 : tie.Need-returns
returns-2 c = c.due_at.ensures ∙ rw c.before.if-history.false

pub due_in_spec : {M : Type 1} → statement M
due_in_spec = tie.close (tie.spec (λ c κs. search rules) returns due-at-requires returns-2)
