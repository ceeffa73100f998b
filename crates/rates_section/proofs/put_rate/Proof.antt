-- The rate behind its words (put_append). Assumes nothing.
use Rattle.composing.proofs.Puts.{put_append}
use Rattle.rates_section.specs.RatesSection.{rate_words}
use borrow.Author.Rules.{rules}
use Rattle.rates_section.proofs.put_rate.Statement.{statement}
use Rattle.rates_section.proofs.put_rate.Tie as tie

returns : tie.Need-returns
unfolding rate_words
returns c = put_append c.before.before.before.before.before.before.put_words-rate.ensures c.before.before.put_typed.ensures

pub put_rate_spec : {M : Type 1} → statement M
put_rate_spec =
    tie.close
    (tie.spec
    (λ c κs. search rules)
    (λ c κs. search rules)
    (λ c. search rules)
    returns)
