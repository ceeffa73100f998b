-- The words of the shape between start and end (put_four). Assumes nothing.
use Rattle.composing.proofs.Puts.{put_four}
use Rattle.rates_section.specs.RatesSection.{rates_paragraph}
use borrow.Author.Rules.{rules}
use Rattle.rates_section.proofs.put_rates_paragraph.Statement.{statement}
use Rattle.rates_section.proofs.put_rates_paragraph.Tie as tie

returns : tie.Need-returns
unfolding rates_paragraph
returns c =
    put_four c.before.before.before.before.before.before.before.before.before.before.before.before.before.before.before.before.put_paragraph_start-shape.ensures (rw c.before.before.before.before.before.before.before.before.before.before.before.before.before.before.before.before.before.before.shape_at-place.ensures.0 at c.before.before.before.before.before.before.before.before.before.before.before.before.put_shape-nearest.ensures) c.before.before.before.before.before.before.put_words-end.ensures c.before.before.put_paragraph_end.ensures

pub put_rates_paragraph_spec : {M : Type 1} → statement M
put_rates_paragraph_spec =
    tie.close
    (tie.spec
    (λ c κs. search rules)
    (λ c κs. search rules)
    (λ c κs. search rules)
    (λ c κs. search rules)
    (λ c κs. search rules)
    (λ c. search rules)
    returns)
