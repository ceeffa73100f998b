-- By the byte right after the label. Assumes nothing.
use mathlib.Core.Path.{sym, ◌∙◌}
use Rattle.cells.specs.Cells.{cells_text}
use borrow.Author.Rules.{rules}
use Rattle.cells.proofs.cells_text.Statement.{statement}
use Rattle.cells.proofs.cells_text.Tie as tie

returns : tie.Need-returns-then-does_decide
unfolding cells_text
returns c =
    rw (← c.before.before.before.before.decider_of.ensures, sym c.before.before.before.does_decide.ensures ∙ c.before.before.if-does_decide.true) (c.after_first.ensures ∙ rw c.before.after_label.ensures)

returns-2 : tie.Need-returns
unfolding cells_text
returns-2 c =
    rw (← c.before.before.before.decider_of.ensures, sym c.before.before.does_decide.ensures ∙ c.before.if-does_decide.false) c.after_label-2.ensures

pub cells_text_spec : {M : Type 1} → statement M
cells_text_spec =
    tie.close
    (tie.spec
    (λ c κs. search rules)
    (λ c κs. search rules)
    (λ c κs. search rules)
    (λ c κs. search rules)
    returns
    (λ c κs. search rules)
    returns-2)
