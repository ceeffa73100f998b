-- The loop's invariant: `sum` is the sum of the entries before the one of turn i. Assumes nothing.
use Prim.Native.Nat.{ℕ, ◌+◌, ◌-◌, ◌*◌, ◌<◌}
use native.Mathlib.Omega.{arith}
use mathlib.Core.Path.{◌≡◌, refl}
use mathlib.Core.List.{List}
use lib.IntN.{ℤ, pos}
use lib.ListN.{length, get_or}
use mir.Syntax.{w64}
use mir.Val.{to_z}
use Rattle.rules.specs.Triangle.{sum_to}
use Rattle.signed_sums.proofs.Adding.{turn_fits, turn_is}
use Rattle.signed_sums.specs.Small.{most_figure}
use Rattle.signed_sums.proofs.sum_along.Goals as goal
use Rattle.signed_sums.proofs.sum_along.Goals.{In-loop-i}

-- the entry of turn i
abbrev along : List ℤ → ℕ → ℕ → ℕ → ℤ
along values start stride i = get_or values (start + i * stride) (pos 0)

-- the entry of a turn stands in the slice
inside : (c : In-loop-i)
    → c.args.start + c.loop-i.i * c.args.stride < length c.args.values.now
inside c = c.requires.1.1.1 c.loop-i.i (omega arith)

pub loop-i-init : goal.loop-i-init
unfolding sum_to
loop-i-init c = (omega arith, refl)

pub overflow_mul-at : goal.overflow_mul-at
overflow_mul-at c = omega (arith, inside (goal.at.overflow_mul-at c).In-loop-i)

pub overflow_add-at : goal.overflow_add-at
overflow_add-at c = omega (arith, inside (goal.at.overflow_add-at c).In-loop-i)

pub offset_bounds-values-at : goal.offset_bounds-values-at
offset_bounds-values-at c = omega (arith, inside (goal.at.offset_bounds-values-at c).In-loop-i)

-- the sum so far
so_far : (c : In-loop-i) → to_z w64 c.loop-i.sum-bits ≡ sum_to (along c.args.values.now c.args.start c.args.stride) c.loop-i.i
so_far c = c.loop-i.invariant.1

pub overflow_add-sum : goal.overflow_add-sum
overflow_add-sum c =
    rw (so_far (goal.at.overflow_add-sum c).In-loop-i)
    (turn_fits (along c.args.values.now c.args.start c.args.stride) most_figure c.args.n c.requires.1.0 c.loop-i.i (omega arith) (omega arith))

pub loop-i-preserved : goal.loop-i-preserved
loop-i-preserved c = (
  omega arith,
  rw (so_far (goal.at.loop-i-preserved c).In-loop-i)
      (turn_is (along c.args.values.now c.args.start c.args.stride) most_figure c.args.n c.requires.1.0 c.loop-i.i (omega arith) (omega arith)),
)
