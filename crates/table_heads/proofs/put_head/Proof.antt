-- A year, or a line of the words. Assumes nothing.
use native.Mathlib.Omega.{arith}
use borrow.Author.Tests.{lt-ltb, le-ltb}
use Rattle.table_heads.specs.Heads.{head}
use borrow.Author.Rules.{rules}
use Rattle.table_heads.proofs.put_head.Statement.{statement}
use Rattle.table_heads.proofs.put_head.Tie as tie

returns : tie.Need-returns-then-j-shape
unfolding head
returns c =
    let s = c.before.before.before.before.before.before.before.before.args in
    rw (lt-ltb s.j s.shape.years c.before.before.before.before.if-j-shape.true) c.before.before.put_decimal.ensures

returns-2 : tie.Need-returns-else-j-shape
unfolding head
returns-2 c =
    let s = c.before.before.before.before.before.before.before.before.before.args in
    rw (le-ltb s.j s.shape.years c.before.before.before.before.before.if-j-shape.false) c.before.before.put_line.ensures

pub put_head_spec : {M : Type 1} → statement M
put_head_spec =
    tie.close
    (tie.spec (λ c κs. search rules) (λ c. search rules) (λ c κs. search rules) (λ c. search rules) returns (λ c. search rules) returns-2)
