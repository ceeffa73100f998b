-- By which of the two texts it is. Assumes nothing.
use native.Mathlib.Omega.{arith}
use Rattle.history_sheet.proofs.Lines.{first_most}
use Rattle.history_sheet.proofs.lines_in.Statement.{statement}
use Rattle.history_sheet.proofs.lines_in.Tie as tie

add-result : tie.Need-overflow_add-result
add-result c = omega (arith, first_most c.before.args.history _ c.before.requires)

add-result-2 : tie.Need-overflow_add-result-else-history
add-result-2 c = omega (arith, first_most c.before.args.history _ c.before.requires)

returns : tie.Need-returns-then-history
returns c = rw c.if-history.true

returns-2 : tie.Need-returns-else-history
returns-2 c = rw c.if-history.false

pub lines_in_spec : {M : Type 1} → statement M
lines_in_spec = tie.close (tie.spec add-result add-result-2 returns returns-2)
