-- The parts follow one another (put_three). Assumes nothing.
use Rattle.composing.proofs.Puts.{put_three}
use Rattle.history_page.specs.Page.{history_width}
use borrow.Author.Rules.{rules}
use Rattle.history_page.proofs.put_history_width.Statement.{statement}
use Rattle.history_page.proofs.put_history_width.Tie as tie

returns : tie.Need-returns
unfolding history_width
returns c = put_three c.before.before.before.before.before.before.before.before.before.before.before.before.before.before.put_either-a.ensures c.before.before.before.before.before.before.before.before.before.before.put_decimal-b.ensures c.before.before.put_either.ensures

pub put_history_width_spec : {M : Type 1} → statement M
put_history_width_spec =
    tie.close
    (tie.spec
    (λ c κs. search rules)
    (λ c κs. search rules)
    (λ c κs. search rules)
    (λ c. search rules)
    returns)
