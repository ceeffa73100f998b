-- A year, a line of the labels, or the total's label. Assumes nothing.
use native.Mathlib.Omega.{arith}
use borrow.Author.Tests.{eq-eqb, ne_eqb, lt-ltb, le-ltb}
use lib.ListN.{length}
use Rattle.table_heads.specs.Heads.{label}
use borrow.Author.Rules.{rules}
use Rattle.table_heads.proofs.put_label.Statement.{statement}
use Rattle.table_heads.proofs.put_label.Tie as tie

returns : tie.Need-returns-then-labels-eq0
unfolding label
returns c =
    let s = c.before.before.before.before.before.before.before.before.before.before.before.args in
    rw (lt-ltb s.i s.shape.rows c.before.before.before.before.before.before.if-i-shape.true, eq-eqb (length s.labels.now) 0 c.before.before.before.before.before.if-labels-eq0.true) c.before.before.put_decimal.ensures

returns-2 : tie.Need-returns-else-labels-eq0
unfolding label
returns-2 c =
    let s = c.before.before.before.before.before.before.before.before.before.before.args in
    rw (lt-ltb s.i s.shape.rows c.before.before.before.before.before.if-i-shape.true, ne_eqb (length s.labels.now) 0 c.before.before.before.before.if-labels-eq0.false) c.before.before.put_line.ensures

returns-3 : tie.Need-returns-else-i-shape
unfolding label
returns-3 c =
    let s = c.before.before.before.before.before.before.before.before.before.args in
    rw (le-ltb s.i s.shape.rows c.before.before.before.before.if-i-shape.false) c.before.before.put_bytes.ensures

pub put_label_spec : {M : Type 1} → statement M
put_label_spec =
    tie.close
    (tie.spec (λ c. search rules) (λ c κs. search rules) (λ c κs. search rules) (λ c κs. search rules) (λ c. search rules) returns (λ c. search rules) returns-2 (λ c. search rules) returns-3)
