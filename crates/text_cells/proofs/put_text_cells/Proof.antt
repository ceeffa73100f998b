-- The loop's invariant: the first j cells are put. Assumes nothing.
use mathlib.Core.Path.{◌≡◌}
use Prim.Native.Nat.{◌+◌, ◌-◌, ◌≤◌}
use native.Mathlib.Omega.{arith}
use lib.ListN.{get_or}
use Rattle.rules.specs.Lists.{up_to, joined}
use Rattle.composing.specs.Text.{Put, right}
use Rattle.composing.proofs.Puts.{put_first, put_more, put_length}
use Rattle.table_cells.specs.Cells.{text_cell_at}
use Rattle.text_cells.specs.Cells.{text_cells}
use borrow.Author.Rules.{rules}
use Rattle.text_cells.proofs.put_text_cells.Statement.{statement}
use Rattle.text_cells.proofs.put_text_cells.Tie as tie

abbrev invariant-loop : tie.invariant-loop-j
invariant-loop out₀ at widths values styles p n end₀ j₀ out end j =
    (j ≤ n) × Put out₀ out at end (joined (up_to (λ j. right (get_or widths j 0) (text_cell_at values styles (p + j))) j))

abbrev decreases-loop : tie.decreases-loop-j
decreases-loop out₀ at widths values styles p n end₀ j₀ out end j = n - j

loop-holds : tie.Need-loop-j-init invariant-loop decreases-loop
loop-holds c =
    let a = c.before.args in
    (omega arith, put_first (λ j. right (get_or a.widths.now j 0) (text_cell_at a.values.now a.styles.now (a.p + j))) _ _)

loop-again : tie.Need-loop-j-preserved invariant-loop decreases-loop
loop-again c =
    let a = c.before.before.before.before.before.before.before.before.before.args in
    (omega arith, put_more (λ j. right (get_or a.widths.now j 0) (text_cell_at a.values.now a.styles.now (a.p + j))) c.before.before.before.before.before.before.before.loop-j.j c.before.before.before.before.before.before.before.loop-j.invariant.1 c.before.before.put_right_cell-end.ensures)

same_length : tie.Need-shape_of-out invariant-loop decreases-loop
same_length c = put_length c.before.loop-j.invariant.1

returns : tie.Need-returns invariant-loop decreases-loop
unfolding text_cells
returns c =
    let e : c.before.loop-j.j ≡ c.before.before.before.args.n = omega arith in
    rw e at c.before.loop-j.invariant.1

pub put_text_cells_spec : {M : Type 1} → statement M
put_text_cells_spec =
    tie.close
    (tie.spec invariant-loop decreases-loop loop-holds (λ c. search rules) (λ c. search rules) (λ c. search rules) (λ c κs. search rules) (λ c. search rules) (λ c. search rules) loop-again same_length returns)
