-- By the sign; the step is at most 5 (step_most). Assumes nothing.
use Prim.Native.Nat.{ℕ, ◌+◌, ◌*◌, ◌/◌, ◌≤◌, max}
use native.Mathlib.Omega.{arith}
use native.Mathlib.Nat.{max_comm}
use mathlib.Core.Path.{◌≡◌, ap, ◌∙◌}
use lib.IntN.{nat_abs}
use mir.Facts.{to_z-of_z}
use Rattle.entries.proofs.Signs.{below_zero, not_below}
use Rattle.shading.specs.Shading.{size_step, size_mark}
use Rattle.shading.proofs.Steps.{step_most}
use borrow.Author.Rules.{rules}
use Rattle.shading.proofs.size_mark.Statement.{statement}
use Rattle.shading.proofs.size_mark.Tie as tie

-- the size, and the step
size : (c : tie.After-size_of) → c.size_of.result ≡ nat_abs c.before.args.average
size c = rw (to_z-of_z c.before.ranges.average) at c.size_of.ensures

step : (c : tie.After-size_of) → 6 * c.size_of.result / (c.before.args.most + 1) ≡ size_step c.before.args.most (nat_abs c.before.args.average)
unfolding size_step
step c = rw (size c)

few : (c : tie.After-size_of) → 6 * c.size_of.result / (c.before.args.most + 1) ≤ 5
few c = rw (step c) (step_most c.before.args.most (nat_abs c.before.args.average) c.before.requires.0)

returns : tie.Need-returns-then-average-lt0
unfolding size_mark
returns c =
    let b = c.before.before in
    let s = b.before in
    let (n, e, h) = below_zero s.args.average s.ranges.average c.before.if-average-lt0.true in
    (rw e (ap (λ (z : ℕ). 16 + z) (c.max.ensures ∙ max_comm _ 1 ∙ ap (max 1) (rw e at (step b)))), omega (arith, few b, c.max.ensures))

returns-2 : tie.Need-returns-else-average-lt0
unfolding size_mark
returns-2 c =
    let b = c.before.before in
    let s = b.before in
    let (n, e, h) = not_below s.args.average s.ranges.average c.before.if-average-lt0.false in
    (rw e (rw (rw e at (step b)) at c.stepped_mark.ensures.0), c.stepped_mark.ensures.1)

pub size_mark_spec : {M : Type 1} → statement M
size_mark_spec =
    tie.close
    (tie.spec
    (λ c κs. search rules)
    (λ c. omega (arith, size c))
    (λ c. search rules)
    (λ c. search rules)
    (λ c κs. search rules)
    (λ c. omega (arith, few c.before.before, c.max.ensures))
    (λ c. omega (arith, few c.before.before, c.max.ensures))
    (λ c κs. (omega arith, few c.before))
    returns
    returns-2)
