-- A blank cell changes nothing. Assumes nothing.
use borrow.Author.Tests.{eq-eqb, ne_eqb}
use borrow.Author.Rules.{rules}
use Rattle.text_cells.proofs.filled_after.Statement.{statement}
use Rattle.text_cells.proofs.filled_after.Tie as tie

returns : tie.Need-returns-then-style-eq0
returns c = rw (eq-eqb c.before.args.style 0 c.if-style-eq0.true)

returns-2 : tie.Need-returns-else-style-eq0
returns-2 c = rw (ne_eqb c.before.args.style 0 c.if-style-eq0.false)

pub filled_after_spec : {M : Type 1} → statement M
filled_after_spec =
    tie.close
    (tie.spec (λ c. search rules) returns returns-2)
