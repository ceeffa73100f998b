-- Each product of two numbers within their limits fits. Assumes nothing.
use borrow.Author.Rules.{rules}
use mathlib.Core.Path.{refl}
use Prim.Native.Nat.{◌+◌, ◌-◌, ◌*◌, ◌≤◌}
use native.Mathlib.Nat.{mul-le-mul}
use native.Mathlib.Omega.{arith}
use Rattle.rules.specs.Record.{million}
use Rattle.rules.specs.Completion.{most_ultimate}
use Rattle.rules.specs.Expense.{weighted, reserve_of}
use Rattle.expense.proofs.ReservesMost.{mixture_most, weighted_most, reserve_of_most}
use Rattle.expense.proofs.reserve_of.Statement.{statement}
use Rattle.expense.proofs.reserve_of.Tie as tie

all : (c : tie.Start) → c.args.weight * c.args.not_reported + (million - c.args.weight) * c.args.provision ≤ million * most_ultimate
all c = mixture_most c.args.weight c.args.not_reported c.args.provision c.requires.1.0 c.requires.1.1.0 c.requires.1.1.1

mul-weighted : tie.Need-overflow_mul-weighted
mul-weighted c = omega (arith, all c)

sub-weighted : tie.Need-overflow_sub-weighted
sub-weighted c = search rules

mul-weighted-2 : tie.Need-overflow_mul-weighted-2
mul-weighted-2 c = omega (arith, all c)

add-weighted : tie.Need-overflow_add-weighted
add-weighted c = omega (arith, all c)

mul-result : tie.Need-overflow_mul-result
unfolding weighted
mul-result c =
    let mean = weighted_most c.args.weight c.args.not_reported c.args.provision c.requires.1.0 c.requires.1.1.0 c.requires.1.1.1 in
    omega (arith, mul-le-mul c.requires.0 mean)

returns : tie.Need-returns
unfolding weighted reserve_of
returns c = (refl, reserve_of_most c.args.ratio c.args.weight c.args.not_reported c.args.provision c.requires.0 c.requires.1.0 c.requires.1.1.0 c.requires.1.1.1)

pub reserve_of_spec : {M : Type 1} → statement M
reserve_of_spec =
    tie.close (tie.spec mul-weighted sub-weighted mul-weighted-2 add-weighted mul-result returns)
