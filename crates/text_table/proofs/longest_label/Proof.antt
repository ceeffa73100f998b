-- The loop's invariant: the longest label of the first i rows is known (largest_more). Assumes nothing.
use mathlib.Core.Path.{◌≡◌, ap₂, ◌∙◌}
use Prim.Native.Nat.{◌-◌, ◌≤◌, max}
use native.Mathlib.Omega.{arith}
use lib.ListN.{length}
use Rattle.table_cells.specs.Cells.{largest}
use Rattle.table_cells.proofs.Cells.{largest_none, largest_more}
use Rattle.table_heads.specs.Heads.{label}
use borrow.Author.Rules.{rules}
use Rattle.text_table.proofs.longest_label.Statement.{statement}
use Rattle.text_table.proofs.longest_label.Tie as tie

abbrev invariant-loop : tie.invariant-loop-i
invariant-loop labels total shape n most₀ i₀ most i = (i ≤ n) × (most ≡ largest (λ i. length (label labels total shape i)) i)

abbrev decreases-loop : tie.decreases-loop-i
decreases-loop labels total shape n most₀ i₀ most i = n - i

loop-holds : tie.Need-loop-i-init invariant-loop decreases-loop
loop-holds c = (omega arith, largest_none _)

label-length-requires : tie.Need-label_length-requires invariant-loop decreases-loop
label-length-requires c κs = (c.before.before.before.before.requires.0, omega (arith, c.before.before.before.before.requires.1))

loop-again : tie.Need-loop-i-preserved invariant-loop decreases-loop
loop-again c =
    let a = c.before.before.before.before.before.before.args in
    (omega arith, c.larger-most.ensures ∙ ap₂ max c.before.before.before.loop-i.invariant.1 c.before.label_length.ensures ∙ largest_more (λ i. length (label a.labels.now a.total.now a.shape i)) c.before.before.before.loop-i.i)

returns : tie.Need-returns invariant-loop decreases-loop
returns c =
    let e : c.before.loop-i.i ≡ c.before.before.before.before.args.n = omega arith in
    rw e at c.before.loop-i.invariant.1

pub longest_label_spec : {M : Type 1} → statement M
longest_label_spec =
    tie.close
    (tie.spec invariant-loop decreases-loop loop-holds label-length-requires (λ c κs. search rules) (λ c. search rules) (λ c. search rules) loop-again returns)
