-- The rate behind its words (put_append). Assumes nothing.
use Rattle.composing.proofs.Puts.{put_append}
use Rattle.rates_section.specs.RatesSection.{flat_words}
use borrow.Author.Rules.{rules}
use Rattle.rates_section.proofs.put_flat.Statement.{statement}
use Rattle.rates_section.proofs.put_flat.Tie as tie

returns : tie.Need-returns
unfolding flat_words
returns c = put_append c.before.before.before.before.before.before.put_words-rate.ensures c.before.before.put_typed.ensures

pub put_flat_spec : {M : Type 1} → statement M
put_flat_spec =
    tie.close
    (tie.spec
    (λ c κs. search rules)
    (λ c κs. search rules)
    (λ c. search rules)
    returns)
