-- By whether the slot is before the split. Assumes nothing.
use borrow.Author.Tests.{lt-ltb, le-ltb}
use Rattle.plot.proofs.mark_of.Statement.{statement}
use Rattle.plot.proofs.mark_of.Tie as tie

returns : tie.Need-returns-then-c-split
returns c = rw (lt-ltb c.before.args.c c.before.args.split c.if-c-split.true)

returns-2 : tie.Need-returns-else-c-split
returns-2 c = rw (le-ltb c.before.args.c c.before.args.split c.if-c-split.false)

pub mark_of_spec : {M : Type 1} → statement M
mark_of_spec =
    tie.close
    (tie.spec
    returns
    returns-2)
