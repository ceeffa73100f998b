-- A byte that is a space is left out, and any other ends the text. Assumes nothing.
use Rattle.std.proofs.Common.{rules}
use Rattle.cells.proofs.CellLines.{front_here, front_more, front_none}
use Rattle.cells.proofs.unspaced_end.Goals as goal

pub loop-rest-preserved : goal.loop-rest-preserved
loop-rest-preserved c =
    let i = c.loop-rest.invariant in
    front_more c.args.text.now c.loop-rest.rest.now i.0 i.1.0 i.1.1 c.in-32.len_at_least (search rules) _ (search rules)

pub returns-in_default : goal.returns-in_default
returns-in_default c =
    let i = c.loop-rest.invariant in
    (front_none c.args.text.now c.loop-rest.rest.now i.0 i.1.0 i.1.1 c.in_default.len_below, i.1.0)

pub returns-in_default-2 : goal.returns-in_default-2
returns-in_default-2 c =
    let i = c.loop-rest.invariant in
    (front_here c.args.text.now c.loop-rest.rest.now i.0 i.1.0 i.1.1 c.in_default.len_at_least (search rules), i.1.0)
