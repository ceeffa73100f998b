-- The whole line, or none of it. Assumes nothing.
use mathlib.Core.Path.{sym, ◌∙◌}
use Rattle.rates_shown.specs.RatesShown.{shown_rates}
use borrow.Author.Rules.{rules}
use Rattle.rates_shown.proofs.shown_rates.Statement.{statement}
use Rattle.rates_shown.proofs.shown_rates.Tie as tie

returns : tie.Need-returns-then-makes_indices
unfolding shown_rates
returns c = rw (sym c.before.makes_indices.ensures ∙ c.if-makes_indices.true)

returns-2 : tie.Need-returns
unfolding shown_rates
returns-2 c = rw (sym c.before.makes_indices.ensures ∙ c.if-makes_indices.false)

pub shown_rates_spec : {M : Type 1} → statement M
shown_rates_spec = tie.close (tie.spec (λ c κs. search rules) returns (λ c. search rules) returns-2)
