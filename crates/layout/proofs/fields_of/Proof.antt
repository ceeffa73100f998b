-- The closed form of the number of fields, with at most 136 cells. Assumes nothing.
use native.Mathlib.Omega.{arith}
use borrow.Author.Rules.{rules}
use Rattle.layout.proofs.RecordSizes.{fields_count}
use Rattle.layout.proofs.fields_of.Statement.{statement}
use Rattle.layout.proofs.fields_of.Tie as tie

cells-of-requires : tie.Need-cells_of-requires
cells-of-requires c κs = search rules

mul-result : tie.Need-overflow_mul-result
mul-result c = search rules

add-result : tie.Need-overflow_add-result
add-result c = search rules

add-result-2 : tie.Need-overflow_add-result-2
add-result-2 c = search rules

returns : tie.Need-returns
returns c = omega (arith, fields_count c.before.args.k)

pub fields_of_spec : {M : Type 1} → statement M
fields_of_spec = tie.close (tie.spec cells-of-requires mul-result add-result add-result-2 returns)
