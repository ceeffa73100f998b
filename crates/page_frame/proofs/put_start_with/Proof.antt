-- One page or the other. Assumes nothing.
use Rattle.page_frame.specs.Frame.{start_with}
use borrow.Author.Rules.{rules}
use Rattle.page_frame.proofs.put_start_with.Statement.{statement}
use Rattle.page_frame.proofs.put_start_with.Tie as tie

returns : tie.Need-returns-then-html
unfolding start_with
returns c = rw c.before.before.before.before.if-html.true c.before.before.put_web_start.ensures

returns-2 : tie.Need-returns-else-html
unfolding start_with
returns-2 c = rw c.before.before.before.before.if-html.false c.before.before.put_text_start.ensures

pub put_start_with_spec : {M : Type 1} → statement M
put_start_with_spec =
    tie.close
    (tie.spec
    (λ c κs. search rules)
    (λ c κs. search rules)
    (λ c. search rules)
    returns
    (λ c. search rules)
    returns-2)
