-- By whether a title is given. Assumes nothing.
use borrow.Author.Tests.{eq-eqb, ne_eqb}
use Rattle.history_page.specs.Page.{history_page_start}
use borrow.Author.Rules.{rules}
use Rattle.history_page.proofs.put_history_start.Statement.{statement}
use Rattle.history_page.proofs.put_history_start.Tie as tie

returns : tie.Need-returns-then-title-eq0
unfolding history_page_start
returns c = rw (eq-eqb _ 0 c.before.before.before.before.before.before.before.before.if-title-eq0.true) c.before.before.put_start_with.ensures

returns-2 : tie.Need-returns-else-title-eq0
unfolding history_page_start
returns-2 c = rw (ne_eqb _ 0 c.before.before.before.before.before.before.if-title-eq0.false) c.before.before.put_start_with-else-title-eq0.ensures

pub put_history_start_spec : {M : Type 1} → statement M
put_history_start_spec =
    tie.close
    (tie.spec
    (λ c κs. search rules)
    (λ c κs. search rules)
    (λ c. search rules)
    returns
    (λ c. search rules)
    returns-2)
