-- One more with a total. Assumes nothing.
use native.Mathlib.Omega.{arith}
use borrow.Author.Tests.{eq-eqb, ne_eqb}
use lib.ListN.{length}
use Rattle.table_heads.specs.Heads.{rows_in}
use borrow.Author.Rules.{rules}
use Rattle.table_heads.proofs.rows_in.Statement.{statement}
use Rattle.table_heads.proofs.rows_in.Tie as tie

returns : tie.Need-returns-then-total-eq0
unfolding rows_in
returns c =
    let s = c.before.args in
    rw (eq-eqb (length s.total.now) 0 c.if-total-eq0.true) (omega arith)

returns-2 : tie.Need-returns-else-total-eq0
unfolding rows_in
returns-2 c =
    let s = c.before.before.args in
    rw (ne_eqb (length s.total.now) 0 c.before.if-total-eq0.false) (omega arith)

pub rows_in_spec : {M : Type 1} → statement M
rows_in_spec =
    tie.close
    (tie.spec (λ c. search rules) returns returns-2)
