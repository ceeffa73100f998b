-- The parts follow one another (put_four). Assumes nothing.
use Rattle.composing.proofs.Puts.{put_four}
use Rattle.hindsight_page.specs.Page.{hindsight_years}
use borrow.Author.Rules.{rules}
use Rattle.hindsight_page.proofs.put_hindsight_years.Statement.{statement}
use Rattle.hindsight_page.proofs.put_hindsight_years.Tie as tie

returns : tie.Need-returns
unfolding hindsight_years
returns c = put_four c.before.before.before.before.before.before.before.before.before.before.before.before.before.before.before.before.put_either-a.ensures c.before.before.before.before.before.before.before.before.before.before.before.before.put_decimal-b.ensures c.before.before.before.before.before.before.put_bytes-c.ensures c.before.before.put_decimal.ensures

pub put_hindsight_years_spec : {M : Type 1} → statement M
put_hindsight_years_spec =
    tie.close
    (tie.spec
    (λ c κs. search rules)
    (λ c κs. search rules)
    (λ c κs. search rules)
    (λ c. search rules)
    (λ c κs. search rules)
    (λ c. search rules)
    returns)
