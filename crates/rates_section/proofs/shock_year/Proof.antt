-- The three numbers added. Assumes nothing.
use Rattle.rates_section.specs.RatesSection.{shock_year}
use borrow.Author.Rules.{rules}
use Rattle.rates_section.proofs.shock_year.Statement.{statement}
use Rattle.rates_section.proofs.shock_year.Tie as tie

returns : tie.Need-returns
unfolding shock_year
returns c = rw (c.size_from-year.ensures.0, c.before.cell_at.ensures)

pub shock_year_spec : {M : Type 1} → statement M
shock_year_spec =
    tie.close
    (tie.spec
    (λ c κs. search rules)
    (λ c κs. search rules)
    (λ c. search rules)
    (λ c. search rules)
    returns)
