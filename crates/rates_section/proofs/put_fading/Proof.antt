-- Both rates (put_three). Assumes nothing.
use Rattle.composing.proofs.Puts.{put_three}
use Rattle.rates_section.specs.RatesSection.{fading_words}
use borrow.Author.Rules.{rules}
use Rattle.rates_section.proofs.put_fading.Statement.{statement}
use Rattle.rates_section.proofs.put_fading.Tie as tie

returns : tie.Need-returns
unfolding fading_words
returns c = put_three c.before.before.before.before.before.before.before.before.before.before.before.before.put_rate-toward.ensures c.before.before.before.before.before.before.put_words-long_run.ensures c.before.before.put_typed.ensures

pub put_fading_spec : {M : Type 1} → statement M
put_fading_spec =
    tie.close
    (tie.spec
    (λ c κs. search rules)
    (λ c κs. search rules)
    (λ c κs. search rules)
    (λ c. search rules)
    returns)
