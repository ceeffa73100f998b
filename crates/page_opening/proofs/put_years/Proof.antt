-- The parts follow one another. Assumes nothing.
use Rattle.composing.proofs.Puts.{put_five}
use Rattle.page_opening.specs.Opening.{years_text}
use borrow.Author.Rules.{rules}
use Rattle.page_opening.proofs.put_years.Statement.{statement}
use Rattle.page_opening.proofs.put_years.Tie as tie

returns : tie.Need-returns
unfolding years_text
returns c =
    put_five c.before.before.before.before.before.before.before.before.before.before.before.before.before.before.before.before.before.before.before.before.put_either-a.ensures c.before.before.before.before.before.before.before.before.before.before.before.before.before.before.before.before.put_decimal-b.ensures c.before.before.before.before.before.before.before.before.before.before.put_bytes-c.ensures c.before.before.before.before.before.before.put_decimal-d.ensures c.before.before.put_web_units.ensures

pub put_years_spec : {M : Type 1} → statement M
put_years_spec =
    tie.close
    (tie.spec
    (λ c κs. search rules)
    (λ c κs. search rules)
    (λ c κs. search rules)
    (λ c. search rules)
    (λ c κs. search rules)
    (λ c κs. search rules)
    (λ c. search rules)
    returns)
