-- The law of one cell more, at its column and at its diagonal. Assumes nothing.
use mathlib.Core.Path.{◌≡◌, ◌∙◌}
use Prim.Native.Nat.{◌+◌}
use native.Mathlib.Omega.{arith}
use borrow.Author.Rules.{rules}
use lib.IntN.{pos, ◌+ℤ◌}
use lib.ListN.{get_or, set}
use mir.Facts.{to_z-of_z}
use Rattle.rules.specs.Triangle.{column_total, diagonal_total}
use Rattle.laws.proofs.Signed.{held}
use Rattle.totals.proofs.SoFar.{added}
use Rattle.totals.proofs.add_cell.Statement.{statement}
use Rattle.totals.proofs.add_cell.Tie as tie

diagonal-of-requires : tie.Need-diagonal_of-h-requires
diagonal-of-requires c κs = search rules

-- the cell as it was read
read : (s : tie.Start) → held s.args.cell ≡ s.args.cell
read s = to_z-of_z s.ranges.cell

add-to-requires : tie.Need-add_to-requires
add-to-requires c κs = let s = c.before.before in (omega arith, (rw (read s) s.requires.1.0, s.requires.1.1.0))

add-to-requires-2 : tie.Need-add_to-requires-2
add-to-requires-2 c κs = let s = c.before.before.before.before in (omega arith, (rw (read s) s.requires.1.0, s.requires.1.1.1))

-- the totals with the cell
columns-are : (c : tie.After-add_to-2) →
    let s = c.before.before.before.before.before in
    c.before.before.add_to.new.totals ≡ set s.args.columns.now s.args.j (get_or s.args.columns.now s.args.j (pos 0) +ℤ s.args.cell)
columns-are c = rw (read c.before.before.before.before.before) at c.before.before.add_to.ensures

diagonals-are : (c : tie.After-add_to-2) →
    let s = c.before.before.before.before.before in
    c.add_to-2.new.totals ≡ set s.args.diagonals.now (s.args.i + s.args.j) (get_or s.args.diagonals.now (s.args.i + s.args.j) (pos 0) +ℤ s.args.cell)
diagonals-are c = let at = c.before.before.before.before.diagonal_of-h.ensures in rw (read c.before.before.before.before.before, at) at c.add_to-2.ensures

returns : tie.Need-returns
unfolding column_total diagonal_total
returns c =
    let t = c.before.before.before.before.before in (
      columns-are c,
      (
        diagonals-are c,
        λ s is before. (
          rw (← is) at (columns-are c) ∙ added (λ i j. j) s t.args.i t.args.j _ (omega arith) (omega arith) (omega arith) before.0,
          rw (← is) at (diagonals-are c) ∙ added (λ i j. i + j) s t.args.i t.args.j _ (omega arith) (omega arith) (omega arith) before.1,
        ),
      ),
    )

pub add_cell_spec : {M : Type 1} → statement M
add_cell_spec =
    tie.close
    (tie.spec
    diagonal-of-requires
    add-to-requires
    add-to-requires-2
    returns)
