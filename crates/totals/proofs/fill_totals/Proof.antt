-- The loop's invariant: the totals are those of the first i rows. Assumes nothing.
use borrow.Author.Rules.{rules}
use mathlib.Core.Path.{◌≡◌}
use Prim.Native.Nat.{◌+◌, ◌-◌, ◌≤◌}
use native.Mathlib.Omega.{arith}
use Rattle.rules.specs.Triangle.{TotalsSoFar}
use Rattle.totals.specs.Squares.{cut_of}
use Rattle.totals.proofs.Square.{cut_outside, cut_cells}
use Rattle.totals.proofs.SoFar.{none_passed, all_passed}
use Rattle.totals.proofs.fill_totals.Statement.{statement}
use Rattle.totals.proofs.fill_totals.Tie as tie

abbrev invariant-loop : tie.invariant-loop-i
invariant-loop rows first k columns₀ diagonals₀ n i₀ columns diagonals i = (i ≤ n) × TotalsSoFar (cut_of rows first k) i 0 columns diagonals

abbrev decreases-loop : tie.decreases-loop-i
decreases-loop rows first k columns₀ diagonals₀ n i₀ columns diagonals i = n - i

add-n : tie.Need-overflow_add-n invariant-loop decreases-loop
add-n c = search rules

loop-holds : tie.Need-loop-i-init invariant-loop decreases-loop
loop-holds c =
    let s = c.before.before in
    (omega arith, none_passed (cut_of s.args.rows.now s.args.first s.args.k))

add-row-requires : tie.Need-add_row-requires invariant-loop decreases-loop
add-row-requires c κs =
    let s = c.before.before.before.before.before.before in
    (s.requires.0, (s.requires.1, (omega arith, c.before.before.before.loop-i.invariant.1)))

add-i : tie.Need-overflow_step-i invariant-loop decreases-loop
add-i c = search rules

loop-less : tie.Need-loop-i-smaller invariant-loop decreases-loop
loop-less c = search rules

loop-again : tie.Need-loop-i-preserved invariant-loop decreases-loop
loop-again c = (omega arith, c.add_row.ensures)

returns : tie.Need-returns invariant-loop decreases-loop
returns c =
    let s = c.before.before.before.before in
    let rows = s.args.rows.now in
    let first = s.args.first in
    let k = s.args.k in
    let e : c.before.loop-i.i ≡ k + 1 = omega arith in
    record {
      cells = cut_cells rows first k s.requires.0.0;
      outside = cut_outside rows first k;
      totals = all_passed (cut_of rows first k) k _ _ (cut_outside rows first k) (rw e at c.before.loop-i.invariant.1);
    }

pub fill_totals_spec : {M : Type 1} → statement M
fill_totals_spec =
    tie.close
    (tie.spec invariant-loop decreases-loop add-n loop-holds add-row-requires add-i loop-less loop-again returns)
