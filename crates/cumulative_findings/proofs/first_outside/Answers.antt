-- The row's increments stand in the array, and the first cumulative outside stops the loop (leading_stop, leading_all). Assumes nothing.
use Rattle.std.proofs.Common.{◌≡◌, ◌+◌, ◌-◌, ◌≤◌, ◌∙◌, pos, ◌+ℤ◌, true, false, refl, sym, ap, get_or, w64, to_z, of_z, arith, rules}
use mir.Facts.{of_z-to_z}
use native.Mathlib.Numerals.{add-one}
use Rattle.rules.specs.Lists.{up_to, every}
use Rattle.rules.specs.Triangle.{paid_of, sum_to, cumulative_of, most_cumulative}
use Rattle.laws.proofs.Signed.{held}
use Rattle.laws.proofs.Lists.{every_next}
use Rattle.laws.proofs.Order.{under, over, inside}
use Rattle.laws.proofs.TriangleRows.{row_room}
use Rattle.triangle.proofs.Cumulatives.{more_fits, more_read}
use Rattle.entries.proofs.Leading.{leading_all, leading_stop}
use Rattle.cumulative_findings.specs.CumulativeFindings.{cell_passes, refused_column}
use Rattle.cumulative_findings.proofs.first_outside.Goals as goal
use Rattle.cumulative_findings.proofs.first_outside.Goals.{Start, In-loop-j, then-sum-lt0-via-then-sum-lt0, then-sum-lt0-via-else-sum-lt0+then-sum}

-- the row's increments stand in the array
room : (c : Start) → c.args.at + (c.args.k + 1 - c.args.i) ≤ 136
room c = rw c.requires.1.1.1 (row_room c.args.k c.args.i (omega arith) (omega arith))

-- the sum so far, as it is held
so_far : (c : In-loop-j) → c.loop-j.sum-bits ≡ of_z w64 (sum_to (paid_of c.args.k c.args.increments.now c.args.i) c.loop-j.j)
so_far c = sym (of_z-to_z {w = w64} {n = c.loop-j.sum-bits} (search rules)) ∙ ap (of_z w64) c.loop-j.invariant.0

-- the cumulative with one increment more is what the code holds of it
read : (c : In-loop-j)
    → held (to_z w64 c.loop-j.sum-bits +ℤ held (get_or c.args.increments.now (c.args.at + c.loop-j.j) (pos 0)))
    ≡ cumulative_of c.args.k c.args.increments.now c.args.i c.loop-j.j
read c =
    more_read c.args.k c.args.increments.now c.args.i c.requires.0 c.args.at c.requires.1.1.1 c.loop-j.j c.loop-j.sum-bits (omega arith) (so_far c)

pub loop-j-init : goal.loop-j-init
unfolding sum_to up_to every
loop-j-init c = (refl, refl)

pub overflow_add-sum : goal.overflow_add-sum
overflow_add-sum c = omega (arith, room (goal.at.overflow_add-sum c).Start)

pub offset_bounds-increments-at : goal.offset_bounds-increments-at
offset_bounds-increments-at c = omega (arith, room (goal.at.offset_bounds-increments-at c).Start)

pub bounds-increments-at : goal.bounds-increments-at
bounds-increments-at c = omega (arith, room (goal.at.bounds-increments-at c).Start)

pub overflow_add-sum-in-loop-j : goal.overflow_add-sum-in-loop-j
overflow_add-sum-in-loop-j c =
    more_fits c.args.k c.args.increments.now c.args.i c.requires.0 c.args.at c.requires.1.1.1 c.loop-j.j c.loop-j.sum-bits (omega arith) (so_far (goal.at.overflow_add-sum-in-loop-j c).In-loop-j)

pub returns-then-sum-lt0 : goal.returns-then-sum-lt0
unfolding cell_passes refused_column
returns-then-sum-lt0 c =
    let is = read (goal.at.returns-then-sum-lt0 c).In-loop-j in
    let failed : cell_passes c.args.k c.args.increments.now c.args.i c.loop-j.j ≡ false =
    elim c.then-sum-lt0.branch [
      | then-sum-lt0-via-then-sum-lt0 w ↦ under (pos 0) (pos most_cumulative) (cumulative_of c.args.k c.args.increments.now c.args.i c.loop-j.j) (rw is at w.if-sum-lt0.true)
      | then-sum-lt0-via-else-sum-lt0+then-sum w ↦ over (pos 0) (pos most_cumulative) (cumulative_of c.args.k c.args.increments.now c.args.i c.loop-j.j) (rw is at w.if-sum.true)
    ] in
    (sym (leading_stop (cell_passes c.args.k c.args.increments.now c.args.i) (c.args.k + 1 - c.args.i) c.loop-j.j (omega arith) c.loop-j.invariant.1 failed), λ _. is)

pub loop-j-preserved : goal.loop-j-preserved
unfolding cell_passes cumulative_of
loop-j-preserved c =
    let is = read (goal.at.loop-j-preserved c).In-loop-j in
    let passed : cell_passes c.args.k c.args.increments.now c.args.i c.loop-j.j ≡ true =
    inside (pos 0) (pos most_cumulative) (cumulative_of c.args.k c.args.increments.now c.args.i c.loop-j.j) (rw is at c.if-sum-lt0.false) (rw is at c.if-sum.false) in
    (rw (add-one c.loop-j.j) is, every_next (cell_passes c.args.k c.args.increments.now c.args.i) (λ j. j) c.loop-j.j c.loop-j.invariant.1 passed)

pub returns : goal.returns
unfolding refused_column
returns c =
    let count = c.args.k + 1 - c.args.i in
    let e : c.loop-j.j ≡ count = omega arith in
    (sym (leading_all (cell_passes c.args.k c.args.increments.now c.args.i) count (rw e at c.loop-j.invariant.1)), λ l. absurd (omega arith))
