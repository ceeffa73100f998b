-- Row by row, as the layout gives it; the places are those at which the rows start. Assumes nothing.
use Rattle.std.proofs.Common.{◌≡◌, arith}
use Rattle.rules.specs.Record.{layout}
use Rattle.layout.specs.Places.{places_of}
use Rattle.layout.proofs.RecordSizes.{starts}
use Rattle.field_rows.specs.Rows.{row_of}
use Rattle.field_rows.proofs.row_of.Goals as goal

pub returns-in-1 : goal.returns-in-1
unfolding row_of layout
returns-in-1 c = rw (c.in-1.is, (starts c.args.k).exposures)

pub returns-in-2 : goal.returns-in-2
unfolding row_of layout places_of
returns-in-2 c = rw (c.in-2.is, c.places_of-at.ensures)

pub returns-in-3 : goal.returns-in-3
unfolding row_of layout places_of
returns-in-3 c = rw (c.in-3.is, c.places_of-at.ensures)

pub returns-in-4 : goal.returns-in-4
unfolding row_of layout places_of
returns-in-4 c = rw (c.in-4.is, c.places_of-at.ensures)

pub returns-in-5 : goal.returns-in-5
unfolding row_of layout places_of
returns-in-5 c = rw (c.in-5.is, c.places_of-at.ensures)

pub returns-in-6 : goal.returns-in-6
unfolding row_of layout places_of
returns-in-6 c = rw (c.in-6.is, c.places_of-at.ensures)

pub returns-in_default : goal.returns-in_default
unfolding row_of layout places_of
returns-in_default c = let e : c.args.r ≡ 7 = omega arith in rw (e, c.places_of-at.ensures)
