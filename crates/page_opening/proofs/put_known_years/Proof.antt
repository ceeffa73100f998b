-- The years, or nothing but a full stop. Assumes nothing.
use borrow.Author.Rules.{rules}
use Rattle.page_opening.proofs.put_known_years.Statement.{statement}
use Rattle.page_opening.proofs.put_known_years.Tie as tie

returns : tie.Need-returns-then-known
returns c =
    rw c.before.before.before.before.if-known.true (c.before.before.put_years.ensures)

returns-2 : tie.Need-returns-else-known
returns-2 c =
    rw c.before.before.before.before.before.before.if-known.false (c.before.before.put_only.ensures)

pub put_known_years_spec : {M : Type 1} → statement M
put_known_years_spec =
    tie.close
    (tie.spec
    (λ c κs. search rules)
    (λ c κs. search rules)
    (λ c. search rules)
    returns
    (λ c. search rules)
    returns-2)
