-- By the test. Assumes nothing.
use mir.Facts.{to_z-of_z}
use borrow.Author.Rules.{rules}
use Rattle.cells.proofs.does_pass.Statement.{statement}
use Rattle.cells.proofs.does_pass.Tie as tie

returns : tie.Need-returns-then-ranged
returns c =
    rw c.before.if-ranged.true (rw (to_z-of_z c.before.before.before.ranges.least, to_z-of_z c.before.before.before.ranges.most) at c.is_within.ensures)

returns-2 : tie.Need-returns
returns-2 c = rw c.before.if-ranged.false c.is_number.ensures

pub does_pass_spec : {M : Type 1} → statement M
does_pass_spec = tie.close (tie.spec (λ c κs. search rules) returns (λ c κs. search rules) returns-2)
