-- The closed form of the number of entries, with at most 136 cells. Assumes nothing.
use borrow.Author.Rules.{rules}
use native.Mathlib.Omega.{arith}
use Rattle.listing.proofs.Counts.{results_count}
use Rattle.listing.proofs.entries_of.Statement.{statement}
use Rattle.listing.proofs.entries_of.Tie as tie

cells-of-requires : tie.Need-cells_of-requires
cells-of-requires c κs = search rules

mul-result : tie.Need-overflow_mul-result
mul-result c = search rules

mul-result-2 : tie.Need-overflow_mul-result-2
mul-result-2 c = search rules

add-result : tie.Need-overflow_add-result
add-result c = search rules

add-result-2 : tie.Need-overflow_add-result-2
add-result-2 c = search rules

returns : tie.Need-returns
returns c = omega (arith, results_count c.before.args.k)

pub entries_of_spec : {M : Type 1} → statement M
entries_of_spec = tie.close (tie.spec cells-of-requires mul-result mul-result-2 add-result add-result-2 returns)
