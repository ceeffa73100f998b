-- At most 15 × 14 are halved. Assumes nothing.
use mathlib.Core.Path.{refl}
use Prim.Native.Nat.{◌-◌, ◌*◌, ◌≤◌}
use native.Mathlib.Nat.{mul-le-mul}
use native.Mathlib.Omega.{arith}
use Rattle.rules.specs.Hindsight.{setting_count}
use borrow.Author.Rules.{rules}
use Rattle.hindsight_places.proofs.setting_count.Statement.{statement}
use Rattle.hindsight_places.proofs.setting_count.Tie as tie

mul-result : tie.Need-overflow_mul-result
mul-result c =
    let k = c.args.k in
    let most : k * (k - 1) ≤ 15 * 14 = mul-le-mul {n₂ = 15} {m₂ = 14} (omega arith) (omega arith) in
    record { fits = omega arith }

add-result : tie.Need-overflow_add-result
add-result c =
    let k = c.args.k in
    let most : k * (k - 1) ≤ 15 * 14 = mul-le-mul {n₂ = 15} {m₂ = 14} (omega arith) (omega arith) in
    record { fits = omega arith }

returns : tie.Need-returns
unfolding setting_count
returns c = refl

pub setting_count_spec : {M : Type 1} → statement M
setting_count_spec =
    tie.close
    (tie.spec
    (λ c. search rules)
    mul-result
    add-result
    returns)
