-- The years from the last one behind on hold their T, and T is above its column in every year above it. Assumes nothing.
use mathlib.Core.Path.{◌≡◌, sym}
use mathlib.Core.Bool.{false≢true}
use Prim.Native.Nat.{◌+◌, ◌-◌}
use native.Mathlib.Omega.{arith}
use Rattle.corners.proofs.Corners.{CornersDone, start, fails, goes_on, all}
use Rattle.corners.proofs.fill_corners.Goals as goal

pub loop-h-init : goal.loop-h-init
loop-h-init c = start c.args.columns.now c.args.diagonals.now c.args.k c.requires.0 c.args.totals.now (c.requires.1.0 c.args.k (omega arith)) c.requires.1.1

pub returns-then-t-columns : goal.returns-then-t-columns
returns-then-t-columns c s of =
    let l = c.loop-h in
    let e : l.h - 1 + 1 ≡ l.h = omega arith in
    (sym (fails c.args.columns.now c.args.diagonals.now c.args.k c.requires.0 l.totals l.t l.h l.invariant (omega arith) (rw e at c.if-t-columns.true) s of), λ e. absurd (false≢true e))

pub loop-h-preserved : goal.loop-h-preserved
loop-h-preserved c =
    let l = c.loop-h in
    let e : l.h - 1 + 1 ≡ l.h = omega arith in
    rw e
    (goes_on c.args.columns.now c.args.diagonals.now c.args.k c.requires.0 l.totals l.t l.h l.invariant (omega arith) (rw e at c.if-t-columns.false) (c.requires.1.0 (l.h - 1) (omega arith)))

pub returns : goal.returns
returns c s of =
    let l = c.loop-h in
    let done : CornersDone c.args.columns.now c.args.diagonals.now c.args.k l.totals l.t 0 = let e : l.h ≡ 0 = omega arith in rw e at l.invariant in
    let found = all c.args.columns.now c.args.diagonals.now c.args.k c.requires.0 l.totals l.t done s of in
    (sym found.0, λ e. found.1)
