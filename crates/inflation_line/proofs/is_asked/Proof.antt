-- A year, or a rate. Assumes nothing.
use mathlib.Core.Path.{ap, ◌∙◌}
use Rattle.rules.specs.Lists.{between}
use Rattle.rules.specs.Inflation.{rate_fits}
use Rattle.inflation_line.proofs.Lines.{asked_year, asked_rate}
use borrow.Author.Rules.{rules}
use Rattle.inflation_line.proofs.is_asked.Statement.{statement}
use Rattle.inflation_line.proofs.is_asked.Tie as tie

returns : tie.Need-returns-then-n-eq3
returns c =
    let a = c.before.before.before.before.args in
    c.lies_between.ensures ∙ ap (between 1 a.years) c.before.size_from.ensures.0 ∙ asked_year a.n _ a.years c.before.before.if-n-eq3.true

returns-2 : tie.Need-returns
returns-2 c =
    let a = c.before.before.before.before.args in
    c.rate_fits.ensures ∙ ap rate_fits c.before.rate_of.ensures ∙ asked_rate a.n _ a.years c.before.before.if-n-eq3.false

pub is_asked_spec : {M : Type 1} → statement M
is_asked_spec =
    tie.close
    (tie.spec
    (λ c κs. search rules)
    (λ c κs. search rules)
    returns
    (λ c κs. search rules)
    (λ c κs. search rules)
    returns-2)
