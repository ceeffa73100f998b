-- The parts follow one another. Assumes nothing.
use Rattle.composing.proofs.Puts.{put_five}
use Rattle.page_opening.specs.Opening.{valuation_text}
use borrow.Author.Rules.{rules}
use Rattle.page_opening.proofs.put_valuation.Statement.{statement}
use Rattle.page_opening.proofs.put_valuation.Tie as tie

returns : tie.Need-returns
unfolding valuation_text
returns c =
    put_five c.before.before.before.before.before.before.before.before.before.before.before.before.before.before.before.before.before.before.before.before.before.before.before.before.put_either-a.ensures c.before.before.before.before.before.before.before.before.before.before.before.before.before.before.before.before.before.before.before.before.put_decimal-b.ensures c.before.before.before.before.before.before.before.before.before.before.before.before.before.before.put_only-c.ensures c.before.before.before.before.before.before.before.before.before.before.put_known_years-d.ensures c.before.before.put_either.ensures

pub put_valuation_spec : {M : Type 1} → statement M
put_valuation_spec =
    tie.close
    (tie.spec
    (λ c κs. search rules)
    (λ c κs. search rules)
    (λ c κs. search rules)
    (λ c κs. search rules)
    (λ c κs. search rules)
    (λ c. search rules)
    returns)
