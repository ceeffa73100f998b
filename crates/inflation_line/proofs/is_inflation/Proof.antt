-- By its label. Assumes nothing.
use mathlib.Core.Path.{◌∙◌}
use Rattle.inflation_line.specs.InflationLine.{is_inflation}
use borrow.Author.Rules.{rules}
use Rattle.inflation_line.proofs.is_inflation.Statement.{statement}
use Rattle.inflation_line.proofs.is_inflation.Tie as tie

returns : tie.Need-returns
unfolding is_inflation
returns c = c.same_text.ensures ∙ rw c.before.before.before.label_of.ensures

pub is_inflation_spec : {M : Type 1} → statement M
is_inflation_spec = tie.close (tie.spec
    (λ c κs. search rules)
    (λ c κs. search rules)
    returns)
