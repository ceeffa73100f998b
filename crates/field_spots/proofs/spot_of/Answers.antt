-- By the row: the increments, the reporting shares, and the others. Assumes nothing.
use Rattle.std.proofs.Common.{arith}
use borrow.Author.Tests.{eq-eqb, ne_eqb}
use Rattle.rules.specs.Record.{layout}
use Rattle.field_spots.specs.Spots.{spot_of}
use Rattle.field_spots.proofs.spot_of.Goals as goal

pub cell_of-requires : goal.cell_of-requires
unfolding layout
cell_of-requires c = (c.requires.0, rw c.in-2.is at c.requires.1)

pub returns-in-2 : goal.returns-in-2
unfolding spot_of
returns-in-2 c = rw (eq-eqb c.args.r 2 c.in-2.is) c.cell_of.ensures

pub returns-in-4 : goal.returns-in-4
unfolding spot_of
returns-in-4 c = rw (ne_eqb c.args.r 2 (λ e. omega arith), eq-eqb c.args.r 4 c.in-4.is)

pub returns-in_default : goal.returns-in_default
unfolding spot_of
returns-in_default c = rw (ne_eqb c.args.r 2 (λ e. omega arith), ne_eqb c.args.r 4 (λ e. omega arith))
