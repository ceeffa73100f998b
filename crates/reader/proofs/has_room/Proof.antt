-- `reader::has_room` meets its contract: the fields of k years are counted. Assumes nothing.
use borrow.Author.Rules.{rules}
use Rattle.rules.specs.Reading.{has_room}
use Rattle.reader.proofs.has_room.Statement.{statement}
use Rattle.reader.proofs.has_room.Tie as tie

last-year-of-requires : tie.Need-last_year_of-requires
last-year-of-requires c κs = search rules

fields-of-requires : tie.Need-fields_of-requires
fields-of-requires c κs = search rules

returns : tie.Need-returns
unfolding has_room
returns c = rw (c.fields_of.ensures.0, c.before.last_year_of.ensures.0)

pub has_room_spec : {M : Type 1} → statement M
has_room_spec = tie.close (tie.spec last-year-of-requires fields-of-requires returns)
