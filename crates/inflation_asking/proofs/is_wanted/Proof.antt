-- By which is wanted. Assumes nothing.
use mathlib.Core.Path.{ap, ◌∙◌}
use mathlib.Core.Bool.{not}
use Rattle.inflation_line.specs.InflationLine.{is_inflation}
use Rattle.cells.specs.Cells.{is_bare}
use Rattle.sheet.specs.Sheet.{is_wanted}
use borrow.Author.Rules.{rules}
use Rattle.inflation_asking.proofs.is_wanted.Statement.{statement}
use Rattle.inflation_asking.proofs.is_wanted.Tie as tie

returns : tie.Need-returns-then-inflation
unfolding is_wanted
returns c = rw c.before.before.if-inflation.true (c.is_inflation.ensures ∙ ap is_inflation c.before.content_of.ensures)

returns-2 : tie.Need-returns
unfolding is_wanted
returns-2 c = rw c.before.before.if-inflation.false (ap not (c.is_bare.ensures ∙ ap is_bare c.before.content_of-2.ensures))

pub is_wanted_spec : {M : Type 1} → statement M
is_wanted_spec =
    tie.close
    (tie.spec
    (λ c κs. search rules)
    (λ c κs. search rules)
    returns
    (λ c κs. search rules)
    (λ c κs. search rules)
    returns-2)
