-- By whether there is a sign bit; without one, a number below 2 ^ 35 keeps its value as a signed one. Assumes nothing.
use native.Mathlib.Omega.{arith}
use mir.Syntax.{w64}
use mir.ValLaws.{to_z_pos}
use mir.Facts.{to_z-of_z}
use borrow.Author.Rules.{rules, sfits_of}
use Rattle.field_rows.specs.Rows.{value_in}
use Rattle.field_rows.proofs.value.Statement.{statement}
use Rattle.field_rows.proofs.value.Tie as tie

returns : tie.Need-returns-then-row
unfolding value_in
returns c = rw (c.before.if-row.true, to_z-of_z {w = w64} {z = c.amount.result} (sfits_of c.amount.type_inv)) c.amount.ensures

returns-2 : tie.Need-returns
unfolding value_in
returns-2 c = rw (c.if-row.false, to_z_pos w64 c.before.args.code (omega arith))

pub value_spec : {M : Type 1} → statement M
value_spec = tie.close (tie.spec (λ c κs. search rules) returns (λ c. search rules) returns-2)
