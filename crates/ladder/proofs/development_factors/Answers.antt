-- The loop's invariant: the years before h pass question 13, and their factors are stored. Assumes nothing.
use mathlib.Core.Path.{◌≡◌, refl, sym}
use mathlib.Core.Bool.{true}
use Prim.Native.Nat.{ℕ, ◌≤◌}
use native.Mathlib.Nat.{zero-add}
use native.Mathlib.Omega.{arith}
use borrow.Author.Tests.{le-leb}
use Rattle.rules.specs.Lists.{up_to, below, every}
use Rattle.rules.specs.Ladder.{development_factor, most_factor, factor_passes, factors_pass}
use Rattle.ladder.specs.Columns.{developed_in, base_in}
use Rattle.laws.proofs.Lists.{every_next}
use Rattle.laws.proofs.Joined.{sets_more}
use Rattle.entries.proofs.Leading.{leading_all}
use Rattle.ladder.proofs.Stops.{factor_at, passes}
use Rattle.ladder.proofs.development_factors.Goals as goal

-- a year that passes
fine : (a b : ℕ) → 1 ≤ b → development_factor a b ≤ most_factor → factor_passes a b ≡ true
unfolding factor_passes
fine a b l h = rw (le-leb 1 b l, le-leb (development_factor a b) most_factor h)

pub loop-h-init : goal.loop-h-init
unfolding up_to every
loop-h-init c = (omega arith, (refl, refl))

pub loop-h-preserved : goal.loop-h-preserved
unfolding developed_in base_in development_factor
loop-h-preserved c =
    let t = c.loop-h in
    let k = c.args.k in
    let v = c.args.columns.now in
    let p = c.args.paid.now in
    let passed = fine (developed_in v t.h) (base_in k v p t.h) (omega arith) (omega arith) in
    (omega arith, (every_next (passes k v p) (λ (j : ℕ). j) t.h t.invariant.1.0 passed, rw t.invariant.1.1 (rw (zero-add t.h) at (sets_more (factor_at k v p) c.args.factors.now 0 t.h))))

pub returns : goal.returns
unfolding factors_pass
returns c =
    let t = c.loop-h in
    let k = c.args.k in
    let p = passes k c.args.columns.now c.args.paid.now in
    let e : t.h ≡ k = omega arith in
    let passed : every p (below k) ≡ true = rw e at t.invariant.1.0 in
    (sym passed, rw (leading_all p k passed) (rw e at t.invariant.1.1))
