-- A division by 0 is 0, and no diagonal is above S, so that the product fits. Assumes nothing.
use borrow.Author.Rules.{rules}
use native.Mathlib.Nat.{div-zero}
use Rattle.factors.proofs.level_of.Statement.{statement}
use Rattle.factors.proofs.level_of.Tie as tie

returns : tie.Need-returns-then-a-eq0
returns c = rw (c.if-a-eq0.true, div-zero)

mul-result : tie.Need-offset_bounds-diagonals-h
mul-result c = search rules

element-copy-out-result : tie.Need-bounds-diagonals-h
element-copy-out-result c = search rules

mul-result-2 : tie.Need-overflow_mul-result
mul-result-2 c = search rules

div-result : tie.Need-nonzero_div-result
div-result c = search rules

returns-2 : tie.Need-returns
returns-2 c = search rules

pub level_of_spec : {M : Type 1} → statement M
level_of_spec =
    tie.close
    (tie.spec returns mul-result element-copy-out-result mul-result-2 div-result returns-2)
