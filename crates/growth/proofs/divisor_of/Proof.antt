-- The weight is at most M and B at most 10^12, so their product fits. Assumes nothing.
use borrow.Author.Rules.{rules}
use Prim.Native.Nat.{◌*◌, ◌≤◌}
use native.Mathlib.Nat.{mul-le-mul, div-le_self}
use native.Mathlib.Omega.{arith}
use mathlib.Core.Path.{refl}
use Rattle.rules.specs.Record.{million}
use Rattle.rules.specs.Completion.{most_ultimate}
use Rattle.rules.specs.Growth.{divisor_of}
use Rattle.growth.proofs.divisor_of.Statement.{statement}
use Rattle.growth.proofs.divisor_of.Tie as tie

product : (c : tie.Start) → c.args.weight * c.args.reported ≤ million * most_ultimate
product c = mul-le-mul c.requires.0 c.requires.1.0

sub-result : tie.Need-overflow_sub-result
sub-result c = search rules

mul-result : tie.Need-overflow_mul-result
mul-result c = omega (arith, product c)

div-result : tie.Need-nonzero_div-result
div-result c = search rules

add-result : tie.Need-overflow_add-result
add-result c = omega (arith, product c, div-le_self (c.args.weight * c.args.reported) c.args.paid)

returns : tie.Need-returns
unfolding divisor_of
returns c = refl

pub divisor_of_spec : {M : Type 1} → statement M
divisor_of_spec = tie.close (tie.spec sub-result mul-result div-result add-result returns)
