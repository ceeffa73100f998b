-- k is below 16. Assumes nothing.
use borrow.Author.Rules.{rules}
use mathlib.Core.Path.{refl}
use Prim.Native.Nat.{◌-◌, ◌≤◌}
use native.Mathlib.Nat.{mul-le-mul}
use native.Mathlib.Omega.{arith}
use Rattle.rules.specs.Hindsight.{setting_count}
use Rattle.hindsight_settings.proofs.setting_count.Statement.{statement}
use Rattle.hindsight_settings.proofs.setting_count.Tie as tie

sub-result : tie.Need-overflow_sub-result
sub-result c = search rules

mul-result : tie.Need-overflow_mul-result
mul-result c =
    let few : c.args.k ≤ 15 = omega arith in
    let below : c.args.k - 1 ≤ 14 = omega arith in
    omega (arith, mul-le-mul few below)

add-result : tie.Need-overflow_add-result
add-result c =
    let few : c.args.k ≤ 15 = omega arith in
    let below : c.args.k - 1 ≤ 14 = omega arith in
    omega (arith, mul-le-mul few below)

returns : tie.Need-returns
unfolding setting_count
returns c =
    let few : c.args.k ≤ 15 = omega arith in
    let below : c.args.k - 1 ≤ 14 = omega arith in
    (refl, omega (arith, mul-le-mul few below))

pub setting_count_spec : {M : Type 1} → statement M
setting_count_spec = tie.close (tie.spec sub-result mul-result add-result returns)
