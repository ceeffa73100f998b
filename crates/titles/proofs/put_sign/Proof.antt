-- By the page. Assumes nothing.
use Rattle.titles.specs.Titles.{byte_in}
use borrow.Author.Rules.{rules}
use Rattle.titles.proofs.put_sign.Statement.{statement}
use Rattle.titles.proofs.put_sign.Tie as tie

returns : tie.Need-returns-then-html
unfolding byte_in
returns c = rw c.before.before.before.before.if-html.true c.before.before.put_escaped.ensures

returns-2 : tie.Need-returns-else-html
unfolding byte_in
returns-2 c = rw c.before.before.before.before.before.if-html.false (rw c.before.before.before.plain_byte.ensures at c.before.before.put_byte.ensures)

pub put_sign_spec : {M : Type 1} → statement M
put_sign_spec =
    tie.close
    (tie.spec
    (λ c κs. search rules)
    (λ c κs. search rules)
    (λ c κs. search rules)
    (λ c. search rules)
    returns
    (λ c. search rules)
    returns-2)
