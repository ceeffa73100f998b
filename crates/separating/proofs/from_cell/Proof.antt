-- By whether a cell is left, and by what separates. Assumes nothing.
use mathlib.Core.Path.{sym, ◌∙◌}
use lib.ListN.{length}
use lib.Seq.{drop-length}
use Rattle.laws.proofs.Lists.{from_place}
use Rattle.separating.specs.Separators.{from_cell}
use borrow.Author.Rules.{rules}
use Rattle.separating.proofs.from_cell.Statement.{statement}
use Rattle.separating.proofs.from_cell.Tie as tie

returns : tie.Need-returns-then-is_over
unfolding from_cell
returns c =
    let text = c.before.before.before.before.args.text.now in
    rw (sym c.before.before.is_over.ensures ∙ c.before.if-is_over.true) (from_place text (length text) ∙ drop-length text)

returns-2 : tie.Need-returns-then-alone
unfolding from_cell
returns-2 c =
    rw (sym c.before.before.before.is_over.ensures ∙ c.before.before.if-is_over.false, sym c.before.does_decide-alone.ensures ∙ c.if-alone.true)

returns-3 : tie.Need-returns
unfolding from_cell
returns-3 c =
    rw (sym c.before.before.before.before.before.before.is_over.ensures ∙ c.before.before.before.before.before.if-is_over.false, sym c.before.before.before.before.does_decide-alone.ensures ∙ c.before.before.before.if-alone.false)
    (c.from.ensures ∙ rw c.before.before.separators_of-set.ensures)

pub from_cell_spec : {M : Type 1} → statement M
from_cell_spec =
    tie.close
    (tie.spec
    (λ c κs. search rules)
    (λ c. search rules)
    (λ c. search rules)
    (λ c. search rules)
    returns
    (λ c κs. search rules)
    returns-2
    (λ c κs. search rules)
    (λ c. search rules)
    (λ c κs. search rules)
    returns-3)
