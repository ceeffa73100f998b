-- A year, or a line of the words. Assumes nothing.
use native.Mathlib.Omega.{arith}
use borrow.Author.Tests.{lt-ltb, le-ltb}
use Rattle.table_heads.specs.Heads.{head}
use borrow.Author.Rules.{rules}
use Rattle.table_heads.proofs.head_length.Statement.{statement}
use Rattle.table_heads.proofs.head_length.Tie as tie

returns : tie.Need-returns-then-j-shape
unfolding head
returns c =
    let s = c.before.before.before.before.args in
    rw (lt-ltb s.j s.shape.years c.before.if-j-shape.true) c.decimal_length.ensures

returns-2 : tie.Need-returns-else-j-shape
unfolding head
returns-2 c =
    let s = c.before.before.before.before.before.args in
    rw (le-ltb s.j s.shape.years c.before.before.if-j-shape.false) c.line_length.ensures

pub head_length_spec : {M : Type 1} → statement M
head_length_spec =
    tie.close
    (tie.spec (λ c κs. search rules) (λ c. search rules) (λ c κs. search rules) returns returns-2)
