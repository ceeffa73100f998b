-- The cell, cut. Assumes nothing.
use Rattle.rates_section.specs.RatesSection.{typed_rate}
use borrow.Author.Rules.{rules}
use Rattle.rates_section.proofs.put_typed.Statement.{statement}
use Rattle.rates_section.proofs.put_typed.Tie as tie

returns : tie.Need-returns
unfolding typed_rate
returns c = rw (c.before.before.before.cut.ensures, c.before.before.before.before.before.cell_at-word.ensures) at c.before.before.put_text.ensures

pub put_typed_spec : {M : Type 1} → statement M
put_typed_spec =
    tie.close
    (tie.spec
    (λ c κs. search rules)
    (λ c κs. search rules)
    (λ c κs. search rules)
    (λ c. search rules)
    returns)
