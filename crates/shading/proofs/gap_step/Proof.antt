-- The four tests, counted. Assumes nothing.
use mathlib.Core.Path.{ap₂}
use Prim.Native.Nat.{◌+◌}
use native.Mathlib.Omega.{arith}
use Rattle.shading.specs.Shading.{gap_step}
use borrow.Author.Rules.{rules}
use Rattle.shading.proofs.gap_step.Statement.{statement}
use Rattle.shading.proofs.gap_step.Tie as tie

returns : tie.Need-returns
unfolding gap_step
returns c = (
  ap₂ ◌+◌ (ap₂ ◌+◌ (ap₂ ◌+◌ c.before.before.before.exceeds.ensures.0 c.before.before.exceeds-2.ensures.0) c.before.exceeds-3.ensures.0) c.exceeds-4.ensures.0,
  omega arith,
)

pub gap_step_spec : {M : Type 1} → statement M
gap_step_spec =
    tie.close
    (tie.spec
    (λ c κs. search rules)
    (λ c κs. search rules)
    (λ c. search rules)
    (λ c κs. search rules)
    (λ c. search rules)
    (λ c κs. search rules)
    (λ c. search rules)
    returns)
