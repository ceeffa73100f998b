-- The loop's invariant: the first j cells are put. Assumes nothing.
use mathlib.Core.Path.{◌≡◌}
use Prim.Native.Nat.{◌+◌, ◌-◌, ◌≤◌}
use native.Mathlib.Omega.{arith}
use Rattle.rules.specs.Lists.{up_to, joined}
use Rattle.composing.specs.Text.{Put}
use Rattle.composing.proofs.Puts.{put_first, put_more, put_length}
use Rattle.table_cells.specs.Cells.{web_cell_at}
use Rattle.web_rows.specs.Rows.{web_cells}
use borrow.Author.Rules.{rules}
use Rattle.web_rows.proofs.put_web_cells.Statement.{statement}
use Rattle.web_rows.proofs.put_web_cells.Tie as tie

abbrev invariant-loop : tie.invariant-loop-j
invariant-loop out₀ at values styles p n end₀ j₀ out end j = (j ≤ n) × Put out₀ out at end (joined (up_to (λ j. web_cell_at values styles (p + j)) j))

abbrev decreases-loop : tie.decreases-loop-j
decreases-loop out₀ at values styles p n end₀ j₀ out end j = n - j

loop-holds : tie.Need-loop-j-init invariant-loop decreases-loop
loop-holds c = (omega arith, put_first (λ j. web_cell_at c.before.args.values.now c.before.args.styles.now (c.before.args.p + j)) _ _)

loop-again : tie.Need-loop-j-preserved invariant-loop decreases-loop
loop-again c =
    let a = c.before.before.before.before.before.before.before.args in
    (omega arith, put_more (λ j. web_cell_at a.values.now a.styles.now (a.p + j)) c.before.before.before.before.before.loop-j.j c.before.before.before.before.before.loop-j.invariant.1 c.before.before.put_web_cell_at-end.ensures)

same_length : tie.Need-shape_of-out invariant-loop decreases-loop
same_length c = put_length c.before.loop-j.invariant.1

returns : tie.Need-returns invariant-loop decreases-loop
unfolding web_cells
returns c =
    let e : c.before.loop-j.j ≡ c.before.before.before.args.n = omega arith in
    rw e at c.before.loop-j.invariant.1

pub put_web_cells_spec : {M : Type 1} → statement M
put_web_cells_spec =
    tie.close
    (tie.spec invariant-loop decreases-loop loop-holds (λ c. search rules) (λ c κs. search rules) (λ c. search rules) (λ c. search rules) loop-again same_length returns)
