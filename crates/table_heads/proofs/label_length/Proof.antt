-- A year, a line of the labels, or the total's label. Assumes nothing.
use native.Mathlib.Omega.{arith}
use borrow.Author.Tests.{eq-eqb, ne_eqb, lt-ltb, le-ltb}
use lib.ListN.{length as size}
use Rattle.table_heads.specs.Heads.{label}
use borrow.Author.Rules.{rules}
use Rattle.table_heads.proofs.label_length.Statement.{statement}
use Rattle.table_heads.proofs.label_length.Tie as tie

returns : tie.Need-returns-then-labels-eq0
unfolding label
returns c =
    let s = c.before.before.before.before.before.before.before.args in
    rw (lt-ltb s.i s.shape.rows c.before.before.before.if-i-shape.true, eq-eqb (size s.labels.now) 0 c.before.before.if-labels-eq0.true) c.decimal_length.ensures

returns-2 : tie.Need-returns-else-labels-eq0
unfolding label
returns-2 c =
    let s = c.before.before.before.before.before.before.args in
    rw (lt-ltb s.i s.shape.rows c.before.before.if-i-shape.true, ne_eqb (size s.labels.now) 0 c.before.if-labels-eq0.false) c.line_length.ensures

returns-3 : tie.Need-returns-else-i-shape
unfolding label
returns-3 c =
    let s = c.before.before.before.before.args in
    rw (le-ltb s.i s.shape.rows c.if-i-shape.false)

pub label_length_spec : {M : Type 1} → statement M
label_length_spec =
    tie.close
    (tie.spec (λ c. search rules) (λ c κs. search rules) (λ c κs. search rules) returns returns-2 returns-3)
