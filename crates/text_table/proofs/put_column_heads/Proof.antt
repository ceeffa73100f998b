-- The loop's invariant: the heads of the first j columns are put. Assumes nothing.
use mathlib.Core.Path.{◌≡◌}
use Prim.Native.Nat.{◌-◌, ◌≤◌}
use native.Mathlib.Omega.{arith}
use lib.ListN.{get_or}
use Rattle.rules.specs.Lists.{up_to, joined}
use Rattle.composing.specs.Text.{Put, right}
use Rattle.composing.proofs.Puts.{put_first, put_more, put_length}
use Rattle.table_heads.specs.Heads.{head}
use Rattle.text_table.specs.Plain.{column_heads}
use borrow.Author.Rules.{rules}
use Rattle.text_table.proofs.put_column_heads.Statement.{statement}
use Rattle.text_table.proofs.put_column_heads.Tie as tie

abbrev invariant-loop : tie.invariant-loop-j
invariant-loop out₀ at widths words shape end₀ n j₀ out end j =
    (j ≤ n) × Put out₀ out at end (joined (up_to (λ j. right (get_or widths j 0) (head words shape j)) j))

abbrev decreases-loop : tie.decreases-loop-j
decreases-loop out₀ at widths words shape end₀ n j₀ out end j = n - j

loop-holds : tie.Need-loop-j-init invariant-loop decreases-loop
loop-holds c =
    let a = c.before.before.args in
    (omega arith, put_first (λ j. right (get_or a.widths.now j 0) (head a.words.now a.shape j)) _ _)

mul-put-right-head : tie.Need-offset_bounds-widths-j invariant-loop decreases-loop
mul-put-right-head c = omega (arith, c.before.before.before.before.before.requires)

element-copy-out-put-right-head : tie.Need-bounds-widths-j invariant-loop decreases-loop
element-copy-out-put-right-head c = omega (arith, c.before.before.before.before.before.before.requires)

put-right-head-requires : tie.Need-put_right_head-end-requires invariant-loop decreases-loop
put-right-head-requires c κs = omega (arith, c.before.before.before.before.before.before.before.requires)

loop-again : tie.Need-loop-j-preserved invariant-loop decreases-loop
loop-again c =
    let a = c.before.before.before.before.before.before.before.before.before.before.args in
    (omega arith, put_more (λ j. right (get_or a.widths.now j 0) (head a.words.now a.shape j)) c.before.before.before.before.before.before.before.loop-j.j c.before.before.before.before.before.before.before.loop-j.invariant.1 c.before.before.put_right_head-end.ensures)

same_length : tie.Need-shape_of-out invariant-loop decreases-loop
same_length c = put_length c.before.loop-j.invariant.1

returns : tie.Need-returns invariant-loop decreases-loop
unfolding column_heads
returns c =
    let e : c.before.loop-j.j ≡ c.before.before.before.before.args.shape.columns = omega arith in
    rw e at c.before.loop-j.invariant.1

pub put_column_heads_spec : {M : Type 1} → statement M
put_column_heads_spec =
    tie.close
    (tie.spec invariant-loop decreases-loop loop-holds mul-put-right-head element-copy-out-put-right-head put-right-head-requires (λ c. search rules) (λ c. search rules) loop-again same_length returns)
