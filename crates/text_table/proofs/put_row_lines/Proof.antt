-- The loop's invariant: the lines of the first i rows are put. Assumes nothing.
use mathlib.Core.Path.{◌≡◌, ◌∙◌}
use Prim.Native.Nat.{◌-◌, ◌≤◌}
use native.Mathlib.Omega.{arith}
use Rattle.rules.specs.Lists.{up_to, joined}
use Rattle.composing.specs.Text.{Put}
use Rattle.composing.proofs.Puts.{put_first, put_more, put_length}
use Rattle.table_heads.proofs.Shapes.{rows_in_most}
use Rattle.text_table.specs.Plain.{row_line}
use borrow.Author.Rules.{rules}
use Rattle.text_table.proofs.put_row_lines.Statement.{statement}
use Rattle.text_table.proofs.put_row_lines.Tie as tie

abbrev invariant-loop : tie.invariant-loop-i
invariant-loop out₀ at labels total shape values styles places widths end₀ n i₀ out end i =
    (i ≤ n) × Put out₀ out at end (joined (up_to (row_line labels total shape values styles places widths) i))

abbrev decreases-loop : tie.decreases-loop-i
decreases-loop out₀ at labels total shape values styles places widths end₀ n i₀ out end i = n - i

rows-in-requires : tie.Need-rows_in-n-requires invariant-loop decreases-loop
rows-in-requires c κs = c.before.before.before.requires.rows_most

loop-holds : tie.Need-loop-i-init invariant-loop decreases-loop
loop-holds c = (omega arith, put_first _ _ _)

put-row-line-requires : tie.Need-put_row_line-end-requires invariant-loop decreases-loop
put-row-line-requires c κs =
    let a = c.before.before.before.before.before.before.before.args in
    (c.before.before.before.before.before.before.before.requires, omega (arith, c.before.before.before.rows_in-n.ensures, rows_in_most a.total.now a.shape))

loop-again : tie.Need-loop-i-preserved invariant-loop decreases-loop
loop-again c =
    let a = c.before.before.before.before.before.before.before.before.before.before.args in
    (omega arith, put_more (row_line a.labels.now a.total.now a.shape a.values.now a.styles.now a.places a.widths.now) c.before.before.before.before.before.loop-i.i c.before.before.before.before.before.loop-i.invariant.1 c.before.before.put_row_line-end.ensures)

same_length : tie.Need-shape_of-out invariant-loop decreases-loop
same_length c = put_length c.before.loop-i.invariant.1

returns : tie.Need-returns invariant-loop decreases-loop
returns c =
    let e : c.before.loop-i.i ≡ c.before.before.rows_in-n.result = omega arith in
    rw (e ∙ c.before.before.rows_in-n.ensures) at c.before.loop-i.invariant.1

pub put_row_lines_spec : {M : Type 1} → statement M
put_row_lines_spec =
    tie.close
    (tie.spec invariant-loop decreases-loop rows-in-requires loop-holds put-row-line-requires (λ c. search rules) (λ c. search rules) loop-again same_length returns)
