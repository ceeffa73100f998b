-- By the sign. Assumes nothing.
use mathlib.Core.Path.{◌≡◌}
use native.Mathlib.Omega.{arith}
use lib.IntN.{nat_abs}
use mir.Facts.{to_z-of_z}
use Rattle.entries.proofs.Signs.{below_zero, not_below}
use Rattle.shading.specs.Shading.{gap_step, gap_mark}
use borrow.Author.Rules.{rules}
use Rattle.shading.proofs.gap_mark.Statement.{statement}
use Rattle.shading.proofs.gap_mark.Tie as tie

-- the size, and the step
size : (c : tie.After-size_of) → c.size_of.result ≡ nat_abs c.before.args.gap
size c = rw (to_z-of_z c.before.ranges.gap) at c.size_of.ensures

step : (c : tie.After-gap_step-step) → c.gap_step-step.result ≡ gap_step (nat_abs c.before.before.args.gap) c.before.before.args.fitted
step c = rw (size c.before) at c.gap_step-step.ensures.0

gap-step-requires : tie.Need-gap_step-step-requires
gap-step-requires c κs = (omega (arith, size c, c.before.requires.1), c.before.requires.0)

returns : tie.Need-returns-then-gap-lt0
unfolding gap_mark
returns c =
    let b = c.before.before in
    let s = b.before.before in
    let (n, e, h) = below_zero s.args.gap s.ranges.gap c.before.if-gap-lt0.true in
    (rw e (rw (rw e at (step b)) at c.stepped_mark.ensures.0), c.stepped_mark.ensures.1)

returns-2 : tie.Need-returns-else-gap-lt0
unfolding gap_mark
returns-2 c =
    let b = c.before.before in
    let s = b.before.before in
    let (n, e, h) = not_below s.args.gap s.ranges.gap c.before.if-gap-lt0.false in
    (rw e (rw (rw e at (step b)) at c.stepped_mark-else-gap-lt0.ensures.0), c.stepped_mark-else-gap-lt0.ensures.1)

pub gap_mark_spec : {M : Type 1} → statement M
gap_mark_spec =
    tie.close
    (tie.spec
    (λ c κs. search rules)
    gap-step-requires
    (λ c κs. search rules)
    (λ c κs. search rules)
    returns
    returns-2)
