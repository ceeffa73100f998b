-- The totals of the square are those that are separated. Assumes nothing.
use borrow.Author.Rules.{rules}
use mathlib.Core.List.{List}
use lib.IntN.{ℤ}
use Rattle.totals.specs.Squares.{cut_of}
use Rattle.separation.proofs.separate.Statement.{statement}
use Rattle.separation.proofs.separate.Tie as tie

fill-totals-requires : tie.Need-fill_totals-requires
fill-totals-requires c κs = search rules

-- the square
abbrev square : tie.Start → List (List ℤ)
square s = cut_of s.args.rows.now s.args.first s.args.k

separate-totals-requires : tie.Need-separate_totals-requires
separate-totals-requires c κs = let at = c.before.before in let s = at.before.before.before in (s.requires.1, (square s, at.fill_totals.ensures))

returns : tie.Need-returns
returns c = let at = c.before.before.before in c.separate_totals.ensures (square at.before.before.before) at.fill_totals.ensures

pub separate_spec : {M : Type 1} → statement M
separate_spec = tie.close (tie.spec fill-totals-requires separate-totals-requires returns)
