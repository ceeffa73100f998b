-- Question 20, then question 21 by how many years are within. Assumes nothing.
use mathlib.Core.Path.{◌≡◌, refl, sym, ◌∙◌}
use mathlib.Core.Bool.{true}
use native.Mathlib.Omega.{arith}
use borrow.Author.Rules.{rules}
use Rattle.rules.specs.Inflation.{rates_pass}
use Rattle.inflation.proofs.Answers.{years_most, rates_refused, index_refused, indices_accepted}
use Rattle.inflation.proofs.inflation_indices.Statement.{statement}
use Rattle.inflation.proofs.inflation_indices.Tie as tie

returns : tie.Need-returns-then-not-rates_pass
returns c = c.refuse.ensures ∙ rates_refused _ _ (sym c.before.before.rates_pass.ensures ∙ c.before.if-not-rates_pass.true)

-- question 20 has said yes
rates : (e : tie.Else-not-rates_pass) → rates_pass e.before.before.args.shape e.before.before.args.years ≡ true
rates e = sym e.before.rates_pass.ensures ∙ e.if-not-rates_pass.false

walk-requires : tie.Need-walk-requires
walk-requires c κs = (years_most _ _ (rates c.before), refl)

returns-2 : tie.Need-returns-then-walk-years
returns-2 c =
    let w = c.before.before in
    c.refuse-then-walk-years.ensures ∙ index_refused _ _ (rates w.before.before) (omega (arith, w.walk.ensures.0, c.before.if-walk-years.true))

returns-3 : tie.Need-returns
returns-3 c =
    let w = c.before in
    rw w.walk.ensures.1 (indices_accepted _ _ (rates w.before.before) (omega (arith, w.walk.ensures.0, c.if-walk-years.false)))

pub inflation_indices_spec : {M : Type 1} → statement M
inflation_indices_spec =
    tie.close
    (tie.spec
    (λ c κs. search rules)
    (λ c κs. search rules)
    returns
    walk-requires
    (λ c κs. search rules)
    returns-2
    returns-3)
