-- The years, and then the width (put_append). Assumes nothing.
use Rattle.composing.proofs.Puts.{put_append}
use Rattle.history_page.specs.Page.{history_opening}
use borrow.Author.Rules.{rules}
use Rattle.history_page.proofs.put_history_opening.Statement.{statement}
use Rattle.history_page.proofs.put_history_opening.Tie as tie

returns : tie.Need-returns
unfolding history_opening
returns c = put_append c.before.before.before.before.before.before.put_history_years-end.ensures c.before.before.put_history_width.ensures

pub put_history_opening_spec : {M : Type 1} → statement M
put_history_opening_spec =
    tie.close
    (tie.spec
    (λ c κs. search rules)
    (λ c κs. search rules)
    (λ c. search rules)
    returns)
