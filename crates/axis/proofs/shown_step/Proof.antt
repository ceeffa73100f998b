-- The unit is at least 1 and at most 10^9. Assumes nothing.
use native.Mathlib.Omega.{arith}
use mathlib.Core.Path.{ap}
use Prim.Native.Nat.{ℕ, ◌*◌, ◌/◌, ◌≤◌}
use native.Mathlib.Nat.{mul-le-mul}
use Rattle.axis.specs.Axis.{most_one, shown_step}
use Rattle.axis.proofs.Axis.{unit_bounds}
use borrow.Author.Rules.{rules}
use Rattle.axis.proofs.shown_step.Statement.{statement}
use Rattle.axis.proofs.shown_step.Tie as tie

mul-result : tie.Need-overflow_mul-result
mul-result c =
    let s = c.before in
    let p : c.unit_of.result ≤ 1000000000 = rw c.unit_of.ensures (unit_bounds s.args.one s.args.step).1 in
    record { fits = omega (arith, mul-le-mul {n₂ = most_one} {m₂ = 1000000000} s.requires.1 p) }

div-result : tie.Need-nonzero_div-result
div-result c =
    let s = c.before in
    let p : 1 ≤ c.unit_of.result = rw c.unit_of.ensures (unit_bounds s.args.one s.args.step).0 in
    omega (arith, mul-le-mul {n₁ = 1} {m₁ = 1} s.requires.0 p)

returns : tie.Need-returns
unfolding shown_step
returns c = ap (λ (u : ℕ). c.before.args.step / (c.before.args.one * u)) c.unit_of.ensures

pub shown_step_spec : {M : Type 1} → statement M
shown_step_spec =
    tie.close
    (tie.spec
    (λ c κs. search rules)
    mul-result
    div-result
    returns)
