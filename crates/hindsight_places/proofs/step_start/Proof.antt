-- Half of a product (start_half). Assumes nothing.
use Prim.Native.Nat.{◌+◌, ◌-◌, ◌*◌, ◌≤◌}
use native.Mathlib.Nat.{mul-le-mul}
use native.Mathlib.Omega.{arith}
use Rattle.hindsight_places.proofs.Inside.{start_half}
use borrow.Author.Rules.{rules}
use Rattle.hindsight_places.proofs.step_start.Statement.{statement}
use Rattle.hindsight_places.proofs.step_start.Tie as tie

mul-result : tie.Need-overflow_mul-result
mul-result c =
    let k = c.args.k in
    let h = c.args.h in
    let most : (k - 1 - h) * (k + h + 2) ≤ 15 * 32 = mul-le-mul {n₂ = 15} {m₂ = 32} (omega arith) (omega arith) in
    record { fits = omega arith }

returns : tie.Need-returns
returns c = start_half c.args.k c.args.h (omega arith)

pub step_start_spec : {M : Type 1} → statement M
step_start_spec =
    tie.close
    (tie.spec
    (λ c. search rules)
    (λ c. search rules)
    (λ c. search rules)
    (λ c. search rules)
    mul-result
    returns)
