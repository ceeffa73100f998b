-- `sum` is the sum of the increments behind, and their cumulatives pass. Assumes nothing.
use mathlib.Core.Path.{◌≡◌, refl, sym, ap, ◌∙◌}
use mathlib.Core.Bool.{false}
use mathlib.Core.List.{List}
use Prim.Native.Nat.{ℕ, ◌+◌, ◌-◌, ◌≤◌, ◌<◌}
use native.Mathlib.Numerals.{add-one}
use native.Mathlib.Omega.{arith}
use borrow.Author.Rules.{rules}
use lib.IntN.{ℤ, pos, ◌+ℤ◌}
use lib.ListN.{length, get_or, take, drop, length-drop}
use lib.Seq.{get_or-take, get_or-drop, length-take-le}
use mir.Syntax.{w64}
use mir.Val.{Fits, SFits, to_z, of_z}
use mir.Facts.{of_z-to_z}
use Rattle.rules.specs.Lists.{up_to, every}
use Rattle.rules.specs.Triangle.{paid_of, row_start, sum_to, cumulative_of, most_cumulative, row_passes}
use Rattle.laws.proofs.Signed.{held}
use Rattle.laws.proofs.Order.{under, over, inside}
use Rattle.laws.proofs.Lists.{every_next, fails_at}
use Rattle.laws.proofs.TriangleRows.{row_room}
use Rattle.triangle.specs.Columns.{Increments}
use Rattle.triangle.proofs.Cumulatives.{passes, more_fits, more_read}
use Rattle.triangle.proofs.row_passes.Goals.{then-sum-lt0-via-then-sum-lt0, then-sum-lt0-via-else-sum-lt0+then-sum}
use Rattle.triangle.proofs.row_passes.Goals as goal

-- increment j of a part of a list
in_part : (p : List ℤ) (at e j : ℕ) → at + j < e → get_or (take (e - at) (drop at p)) j (pos 0) ≡ get_or p (at + j) (pos 0)
in_part p at e j h = get_or-take (e - at) (drop at p) j (pos 0) (omega arith) ∙ get_or-drop at p j (pos 0)

part_long : (p : List ℤ) (at n : ℕ) → at + n ≤ length p → length (take (at + n - at) (drop at p)) ≡ n
part_long p at n h =
    let e : at + n - at ≡ n = omega arith in
    rw e (length-take-le n (drop at p) (omega (arith, length-drop at p)))

-- the sum with increment j: it fits, and it is read as the cumulative
module _ (k : ℕ) (p : List ℤ) (i : ℕ) (amounts : Increments p) (at e j s : ℕ) (start : at ≡ row_start k i) (few : j < 16) (l : at + j < e)
    (fits : Fits w64 s) (summed : to_z w64 s ≡ sum_to (paid_of k p i) j) where
  bits : s ≡ of_z w64 (sum_to (paid_of k p i) j)
  bits = sym (of_z-to_z fits) ∙ ap (of_z w64) summed

  next-fits : SFits w64 (to_z w64 s +ℤ held (get_or (take (e - at) (drop at p)) j (pos 0)))
  next-fits = rw (in_part p at e j l) (more_fits k p i amounts at start j s few bits)

  next-read : held (to_z w64 s +ℤ held (get_or (take (e - at) (drop at p)) j (pos 0))) ≡ cumulative_of k p i j
  next-read = rw (in_part p at e j l) (more_read k p i amounts at start j s few bits)

  next-sum : held (to_z w64 s +ℤ held (get_or (take (e - at) (drop at p)) j (pos 0))) ≡ sum_to (paid_of k p i) (j + 1)
  unfolding cumulative_of
  next-sum = rw (add-one j) next-read

-- one cumulative that fails
fails : (k : ℕ) (p : List ℤ) (i j : ℕ) → j < k + 1 - i → passes k p i j ≡ false → false ≡ row_passes k p i
unfolding row_passes
fails k p i j h e = sym (fails_at (passes k p i) (λ (j : ℕ). j) (k + 1 - i) j h e)

pub overflow_add-x-items : goal.overflow_add-x-items
overflow_add-x-items c = let r = row_room c.args.k c.args.i (omega arith) (omega arith) in search rules

pub offset_bounds-increments-at : goal.offset_bounds-increments-at
offset_bounds-increments-at c = let r = row_room c.args.k c.args.i (omega arith) (omega arith) in search rules

pub slice_bounds-x-items-end : goal.slice_bounds-x-items-end
slice_bounds-x-items-end c = let r = row_room c.args.k c.args.i (omega arith) (omega arith) in search rules

pub loop-x-init : goal.loop-x-init
unfolding sum_to up_to every
loop-x-init c = record { summed = refl; passed = refl }

pub overflow_add-sum : goal.overflow_add-sum
overflow_add-sum c =
    let a = c.args in
    let l = c.loop-x in
    let r = row_room a.k a.i (omega arith) (omega arith) in
    let long = part_long a.increments.now a.at (a.k + 1 - a.i) (omega arith) in
    next-fits a.k a.increments.now a.i c.requires.0 a.at (a.at + (a.k + 1 - a.i)) l.x-index l.sum-bits c.requires.1.1.1 (omega arith) (omega arith) l.auto.sum l.invariant.summed

pub returns-then-sum-lt0 : goal.returns-then-sum-lt0
returns-then-sum-lt0 c =
    let a = c.args in
    let l = c.loop-x in
    let r = row_room a.k a.i (omega arith) (omega arith) in
    let long = part_long a.increments.now a.at (a.k + 1 - a.i) (omega arith) in
    let read = next-read a.k a.increments.now a.i c.requires.0 a.at (a.at + (a.k + 1 - a.i)) l.x-index l.sum-bits c.requires.1.1.1 (omega arith) (omega arith) l.auto.sum l.invariant.summed in
    let z = cumulative_of a.k a.increments.now a.i l.x-index in
    fails a.k a.increments.now a.i l.x-index (omega arith)
    (elim c.then-sum-lt0.branch [
      | then-sum-lt0-via-then-sum-lt0 w ↦ under (pos 0) (pos most_cumulative) z (rw read at w.if-sum-lt0.true)
      | then-sum-lt0-via-else-sum-lt0+then-sum w ↦ over (pos 0) (pos most_cumulative) z (rw read at w.if-sum.true)
    ])

pub loop-x-preserved : goal.loop-x-preserved
loop-x-preserved c =
    let a = c.args in
    let l = c.loop-x in
    let r = row_room a.k a.i (omega arith) (omega arith) in
    let long = part_long a.increments.now a.at (a.k + 1 - a.i) (omega arith) in
    let few : l.x-index < 16 = omega arith in
    let inside_part : a.at + l.x-index < a.at + (a.k + 1 - a.i) = omega arith in
    let read = next-read a.k a.increments.now a.i c.requires.0 a.at (a.at + (a.k + 1 - a.i)) l.x-index l.sum-bits c.requires.1.1.1 few inside_part l.auto.sum l.invariant.summed in
    let z = cumulative_of a.k a.increments.now a.i l.x-index in
    record {
      summed = next-sum a.k a.increments.now a.i c.requires.0 a.at (a.at + (a.k + 1 - a.i)) l.x-index l.sum-bits c.requires.1.1.1 few inside_part l.auto.sum l.invariant.summed;
      passed = every_next (passes a.k a.increments.now a.i) (λ (j : ℕ). j) l.x-index l.invariant.passed (inside (pos 0) (pos most_cumulative) z (rw read at c.if-sum-lt0.false) (rw read at c.if-sum.false));
    }

pub returns : goal.returns
unfolding row_passes
returns c =
    let a = c.args in
    let r = row_room a.k a.i (omega arith) (omega arith) in
    let long = part_long a.increments.now a.at (a.k + 1 - a.i) (omega arith) in
    let e : c.loop-x.x-index ≡ a.k + 1 - a.i = omega arith in
    sym (rw e at c.loop-x.invariant.passed)
