-- The parts follow one another. Assumes nothing.
use Rattle.composing.proofs.Puts.{put_three}
use Rattle.page_opening.specs.Opening.{units_text}
use borrow.Author.Rules.{rules}
use Rattle.page_opening.proofs.put_units.Statement.{statement}
use Rattle.page_opening.proofs.put_units.Tie as tie

returns : tie.Need-returns
unfolding units_text
returns c =
    put_three c.before.before.before.before.before.before.before.before.before.before.before.before.put_bytes-a.ensures c.before.before.before.before.before.before.before.before.put_decimal-b.ensures c.before.before.put_bytes.ensures

pub put_units_spec : {M : Type 1} → statement M
put_units_spec =
    tie.close
    (tie.spec
    (λ c κs. search rules)
    (λ c κs. search rules)
    (λ c κs. search rules)
    (λ c. search rules)
    returns)
