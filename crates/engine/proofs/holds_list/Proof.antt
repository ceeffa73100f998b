-- The entries of the list of k years are counted. Assumes nothing.
use borrow.Author.Rules.{rules}
use Rattle.rules.specs.Engine.{holds_list}
use Rattle.engine.proofs.holds_list.Statement.{statement}
use Rattle.engine.proofs.holds_list.Tie as tie

last-year-of-requires : tie.Need-last_year_of-requires
last-year-of-requires c κs = search rules

entries-of-requires : tie.Need-entries_of-requires
entries-of-requires c κs = search rules

returns : tie.Need-returns
unfolding holds_list
returns c = rw (c.entries_of.ensures.0, c.before.last_year_of.ensures.0)

pub holds_list_spec : {M : Type 1} → statement M
holds_list_spec = tie.close (tie.spec last-year-of-requires entries-of-requires returns)
