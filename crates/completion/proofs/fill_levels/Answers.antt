-- The levels behind are stored. Assumes nothing.
use mathlib.Core.Path.{◌≡◌, refl}
use Prim.Native.Nat.{ℕ, ◌<◌}
use native.Mathlib.Nat.{mul-le-mul}
use native.Mathlib.Omega.{arith}
use lib.ListN.{get_or}
use lib.Seq.{get_or-take, length-take-le}
use Rattle.rules.specs.Lists.{up_to}
use Rattle.rules.specs.Completion.{future_level, future_levels}
use Rattle.laws.proofs.Joined.{first_more}
use Rattle.completion.proofs.fill_levels.Goals as goal

pub loop-t-init : goal.loop-t-init
unfolding future_levels up_to
loop-t-init c = refl

pub overflow_mul-levels : goal.overflow_mul-levels
overflow_mul-levels c =
    let long = length-take-le c.args.k c.args.indices.now (omega arith) in
    let l : c.loop-t.t < c.args.k = omega arith in
    let is = get_or-take c.args.k c.args.indices.now c.loop-t.t 0 l in
    rw is (record { fits = omega (arith, mul-le-mul c.requires.1.0 (c.requires.1.1 c.loop-t.t)) })

pub loop-t-preserved : goal.loop-t-preserved
unfolding future_levels future_level
loop-t-preserved c =
    let long = length-take-le c.args.k c.args.indices.now (omega arith) in
    let l : c.loop-t.t < c.args.k = omega arith in
    let f : ℕ → ℕ = λ t. future_level c.args.latest (get_or c.args.indices.now t 0) in
    rw (get_or-take c.args.k c.args.indices.now c.loop-t.t 0 l, c.loop-t.invariant) (first_more f c.args.levels.now c.loop-t.t)

pub returns : goal.returns
returns c =
    let long = length-take-le c.args.k c.args.indices.now (omega arith) in
    let e : c.loop-t.t ≡ c.args.k = omega arith in
    rw e at c.loop-t.invariant
