-- Both rates and the year (put_append, put_five). Assumes nothing.
use Rattle.composing.proofs.Puts.{put_append, put_five}
use Rattle.rates_section.specs.RatesSection.{shock_words}
use borrow.Author.Rules.{rules}
use Rattle.rates_section.proofs.put_shock.Statement.{statement}
use Rattle.rates_section.proofs.put_shock.Tie as tie

returns : tie.Need-returns
unfolding shock_words
returns c =
    put_append c.before.before.before.before.before.before.before.before.before.before.before.before.before.before.before.before.before.before.before.before.before.before.before.before.before.before.before.before.before.put_rate-in_year.ensures
    (put_five c.before.before.before.before.before.before.before.before.before.before.before.before.before.before.before.before.before.before.before.before.before.before.before.put_words-year.ensures (rw c.before.before.before.before.before.before.before.before.before.before.before.before.before.before.before.before.before.before.before.shock_year.ensures at c.before.before.before.before.before.before.before.before.before.before.before.before.before.before.before.before.before.before.put_decimal-and_of.ensures) c.before.before.before.before.before.before.before.before.before.before.before.before.put_words-other.ensures c.before.before.before.before.before.before.before.before.put_typed-others.ensures c.before.before.put_words.ensures)

pub put_shock_spec : {M : Type 1} → statement M
put_shock_spec =
    tie.close
    (tie.spec
    (λ c κs. search rules)
    (λ c κs. search rules)
    (λ c κs. search rules)
    (λ c κs. search rules)
    (λ c κs. search rules)
    (λ c κs. search rules)
    (λ c κs. search rules)
    (λ c. search rules)
    returns)
