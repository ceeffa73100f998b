-- The parts follow one another. Assumes nothing.
use Rattle.composing.proofs.Puts.{put_three}
use Rattle.page_opening.specs.Opening.{opening_text}
use borrow.Author.Rules.{rules}
use Rattle.page_opening.proofs.put_opening.Statement.{statement}
use Rattle.page_opening.proofs.put_opening.Tie as tie

returns : tie.Need-returns
unfolding opening_text
returns c =
    put_three c.before.before.before.before.before.before.before.before.before.before.put_valuation-a.ensures c.before.before.before.before.before.before.put_known_notice-b.ensures c.before.before.put_size.ensures

pub put_opening_spec : {M : Type 1} → statement M
put_opening_spec =
    tie.close
    (tie.spec (λ c κs. search rules) (λ c κs. search rules) (λ c κs. search rules) (λ c. search rules) returns)
