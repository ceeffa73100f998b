-- The first byte of what comes after the label. Assumes nothing.
use mathlib.Core.Path.{◌∙◌}
use Rattle.cells.specs.Cells.{decider}
use borrow.Author.Rules.{rules}
use Rattle.cells.proofs.decider_of.Statement.{statement}
use Rattle.cells.proofs.decider_of.Tie as tie

returns : tie.Need-returns
unfolding decider
returns c = c.first_of.ensures ∙ rw c.before.after_label.ensures

pub decider_of_spec : {M : Type 1} → statement M
decider_of_spec = tie.close (tie.spec (λ c κs. search rules) (λ c κs. search rules) returns)
