-- The average is the cell that is added. Assumes nothing.
use mathlib.Core.Path.{◌≡◌, sym, ◌∙◌}
use borrow.Author.Rules.{sfits_of}
use mir.Syntax.{w64}
use mir.Facts.{to_z-of_z}
use Rattle.rules.specs.Triangle.{average_of}
use Rattle.laws.proofs.Signed.{held}
use Rattle.row_averages.proofs.add_average.Statement.{statement}
use Rattle.row_averages.proofs.add_average.Tie as tie

average-requires : tie.Need-average-cell-requires
average-requires c κs = (rw (to_z-of_z c.ranges.paid) c.requires.0.0, c.requires.0.1)

-- the cell as it is held, which is the average
read : (c : tie.After-average-cell) → held c.average-cell.result ≡ c.average-cell.result
read c = to_z-of_z {w = w64} {z = c.average-cell.result} (sfits_of c.average-cell.type_inv)

cell_is : (c : tie.After-average-cell) → held c.average-cell.result ≡ average_of c.before.args.paid c.before.args.claims
cell_is c = read c ∙ rw (to_z-of_z c.before.ranges.paid) at c.average-cell.ensures.0

add-cell-requires : tie.Need-add_cell-requires
add-cell-requires c κs = let s = c.before.before.before in (s.requires.1.0, (rw (read c.before.before) c.before.before.average-cell.ensures.1, s.requires.1.1))

returns : tie.Need-returns
returns c = let t = c.before.before.before in (cell_is t, λ s is before. c.add_cell.ensures.1.1 s (is ∙ sym (cell_is t)) before)

pub add_average_spec : {M : Type 1} → statement M
add_average_spec = tie.close (tie.spec average-requires add-cell-requires returns)
