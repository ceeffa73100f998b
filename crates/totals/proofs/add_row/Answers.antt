-- The loop's invariant: the totals are those of the rows before i and of the first j cells of row i. Assumes nothing.
use mathlib.Core.Path.{◌≡◌, sym, ◌∙◌}
use Prim.Native.Nat.{ℕ, ◌+◌, ◌-◌}
use native.Mathlib.Omega.{arith}
use mathlib.Core.List.{[]}
use lib.IntN.{pos}
use lib.ListN.{get_or}
use mir.Facts.{to_z-of_z}
use Rattle.rules.specs.Triangle.{cell_of}
use Rattle.laws.proofs.Signed.{held, size_fits}
use Rattle.totals.specs.Squares.{cut_of}
use Rattle.totals.proofs.Square.{cut_inside, cut_outside, cut_cells}
use Rattle.totals.proofs.SoFar.{row_end, totals_small}
use Rattle.totals.proofs.add_row.Goals as goal
use Rattle.totals.proofs.add_row.Goals.{Start}

-- the cell as it was read
cell-read : (s : Start) (j : ℕ) → held (get_or (get_or s.args.rows.now (s.args.first + s.args.i) []) j (pos 0)) ≡ cell_of s.args.rows.now (s.args.first + s.args.i) j
unfolding cell_of
cell-read s j = to_z-of_z (size_fits (cell_of s.args.rows.now (s.args.first + s.args.i) j) (omega (arith, s.requires.0.0 (s.args.first + s.args.i) j)))

pub loop-j-init : goal.loop-j-init
loop-j-init c = (omega arith, c.requires.1.1.1)

pub add_cell-requires : goal.add_cell-requires
add_cell-requires c =
    let s = c in
    let l = c.loop-j in
    let square = cut_of s.args.rows.now s.args.first s.args.k in (
      omega arith,
      (
        rw (cell-read (goal.at.add_cell-requires c).Start l.j) (s.requires.0.0 (s.args.first + s.args.i) l.j),
        totals_small square (cut_cells s.args.rows.now s.args.first s.args.k s.requires.0.0) s.args.i l.j _ _ l.invariant.1,
      ),
    )

pub loop-j-preserved : goal.loop-j-preserved
loop-j-preserved c =
    let at = c in
    let s = at in
    let square = cut_of s.args.rows.now s.args.first s.args.k in
    let cell = cut_inside s.args.rows.now s.args.first s.args.k s.args.i at.loop-j.j (omega arith) in
    (omega arith, c.add_cell.ensures.1.1 square (cell ∙ sym (cell-read (goal.at.loop-j-preserved c).Start at.loop-j.j)) at.loop-j.invariant.1)

pub returns : goal.returns
returns c =
    let s = c in
    let square = cut_of s.args.rows.now s.args.first s.args.k in
    let e : c.loop-j.j ≡ s.args.k + 1 - s.args.i = omega arith in
    rw (e, row_end square s.args.k (cut_outside s.args.rows.now s.args.first s.args.k) s.args.i) at c.loop-j.invariant.1
