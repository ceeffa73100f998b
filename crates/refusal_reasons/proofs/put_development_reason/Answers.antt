-- By the base of the first year of which question 13 says no. Assumes nothing.
use Prim.Native.Nat.{◌≤◌, ◌<◌}
use native.Mathlib.Omega.{arith}
use Rattle.ladder.specs.Columns.{developed_in, base_in}
use Rattle.composing.proofs.Puts.{put_same}
use Rattle.refusal_reasons.proofs.Development.{base_reason_lem, factor_reason_lem}
use Rattle.refusal_reasons.proofs.put_development_reason.Goals as goal

pub returns-then-columns-h-lt1 : goal.returns-then-columns-h-lt1
unfolding base_in
returns-then-columns-h-lt1 c =
    let h = c.first_refused-h.result in
    let b = base_in c.args.k c.args.columns.now c.args.paid.now in
    let none : b h < 1 = omega (arith, c.if-columns-h-lt1.true) in
    put_same (base_reason_lem (developed_in c.args.columns.now) b c.args.k h c.first_refused-h.ensures.0 none) c.put_base_reason.ensures

pub returns : goal.returns
unfolding base_in
returns c =
    let h = c.first_refused-h.result in
    let b = base_in c.args.k c.args.columns.now c.args.paid.now in
    let some : 1 ≤ b h = omega (arith, c.if-columns-h-lt1.false) in
    put_same (factor_reason_lem (developed_in c.args.columns.now) b c.args.k h c.first_refused-h.ensures.0 some) c.put_factor_reason.ensures
