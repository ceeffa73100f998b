-- No factors, and the two stores. Assumes nothing.
use borrow.Author.Rules.{rules}
use Rattle.separation.proofs.first_year.Statement.{statement}
use Rattle.separation.proofs.first_year.Tie as tie

no-factors-requires : tie.Need-no_factors-f-requires
no-factors-requires c κs = search rules

element-write-f : tie.Need-bounds-f-0
element-write-f c = search rules

element-write-f-2 : tie.Need-bounds-f-0-2
element-write-f-2 c = search rules

returns : tie.Need-returns
returns c = rw c.no_factors-f.ensures

pub first_year_spec : {M : Type 1} → statement M
first_year_spec =
    tie.close (tie.spec no-factors-requires element-write-f element-write-f-2 returns)
