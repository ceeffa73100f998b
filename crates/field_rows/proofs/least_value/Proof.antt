-- By whether there is a sign bit: the most of the size below zero, or the least of it. Assumes nothing.
use mir.Syntax.{w64}
use mir.ValLaws.{to_z_pos}
use Rattle.laws.proofs.Signed.{minus_fits, minus}
use borrow.Author.Rules.{rules}
use Rattle.field_rows.specs.Rows.{least_in}
use Rattle.field_rows.proofs.least_value.Statement.{statement}
use Rattle.field_rows.proofs.least_value.Tie as tie

sub-result : tie.Need-overflow_sub-result
sub-result c = minus_fits c.before.before.args.row.most c.before.before.requires.1

returns : tie.Need-returns-then-row
unfolding least_in
returns c = rw c.before.if-row.true (minus c.before.before.args.row.most c.before.before.requires.1)

returns-2 : tie.Need-returns
unfolding least_in
returns-2 c = rw c.before.if-row.false (to_z_pos w64 c.before.before.args.row.least c.before.before.requires.0)

pub least_value_spec : {M : Type 1} → statement M
least_value_spec = tie.close (tie.spec (λ c. search rules) sub-result returns (λ c. search rules) returns-2)
