-- Twice the cells are (k + 1) (k + 2), so half of that product is exact, and at most 136. Assumes nothing.
use native.Mathlib.Omega.{arith}
use borrow.Author.Rules.{rules}
use Rattle.laws.proofs.TriangleRows.{cells_twice, cells_most}
use Rattle.layout.proofs.cells_of.Statement.{statement}
use Rattle.layout.proofs.cells_of.Tie as tie

add-result : tie.Need-overflow_add-result
add-result c = search rules

add-result-2 : tie.Need-overflow_add-result-2
add-result-2 c = search rules

mul-result : tie.Need-overflow_mul-result
mul-result c = omega (arith, cells_twice c.args.k, cells_most c.args.k c.requires)

returns : tie.Need-returns
returns c = omega (arith, cells_twice c.args.k, cells_most c.args.k c.requires)

pub cells_of_spec : {M : Type 1} → statement M
cells_of_spec = tie.close (tie.spec add-result add-result-2 mul-result returns)
