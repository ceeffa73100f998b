-- One more than a number's length fits (fixed_most). Assumes nothing.
use mathlib.Core.Path.{◌≡◌}
use mir.Facts.{to_z-of_z}
use native.Mathlib.Omega.{arith}
use lib.ListN.{length}
use Rattle.composing.specs.Text.{fixed}
use Rattle.numerals.proofs.Lengths.{fixed_most}
use Rattle.table_cells.proofs.cell_length.Goals as goal

pub overflow_add-result : goal.overflow_add-result
overflow_add-result c =
    let e : c.fixed_length-n.result ≡ length (fixed c.decimals_of.result c.args.z) = rw (to_z-of_z c.ranges.z) at c.fixed_length-n.ensures in
    record { fits = omega (arith, e, c.decimals_of.ensures.1, fixed_most c.decimals_of.result c.args.z) }
