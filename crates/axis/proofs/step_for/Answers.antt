-- The decades that are left, from s on. Assumes nothing.
use Rattle.std.proofs.Common.{◌≡◌, ℕ, suc, ◌+◌, ◌-◌, refl, sym, ap, ◌∙◌, arith}
use Rattle.axis.specs.Axis.{step_in, step_for}
use Rattle.axis.proofs.Axis.{step_here, step_later}
use Rattle.axis.proofs.step_for.Goals as goal

pub loop-init : goal.loop-init
loop-init c = (omega arith, refl)

pub returns-then-largest-s : goal.returns-then-largest-s
unfolding step_for
returns-then-largest-s c =
    let l = c.loop in
    let e : 17 - l.counter ≡ suc (16 - l.counter) = omega arith in
    c.in_decade.ensures ∙ sym (step_here (16 - l.counter) l.s c.args.largest c.if-largest-s.true) ∙ ap (λ (n : ℕ). step_in n l.s c.args.largest) (sym e) ∙ sym l.invariant.1

pub loop-preserved : goal.loop-preserved
loop-preserved c =
    let l = c.loop in
    let e : 17 - l.counter ≡ suc (17 - (l.counter + 1)) = omega arith in
    (omega arith, l.invariant.1 ∙ ap (λ (n : ℕ). step_in n l.s c.args.largest) e ∙ step_later (17 - (l.counter + 1)) l.s c.args.largest c.if-largest-s.false)

pub returns : goal.returns
unfolding step_for step_in
returns c =
    let l = c.loop in
    let e : 17 - l.counter ≡ 0 = omega arith in
    sym (l.invariant.1 ∙ ap (λ (n : ℕ). step_in n l.s c.args.largest) e)
