-- The longest of the head over the labels and the labels. Assumes nothing.
use mathlib.Core.Path.{ap, ap₂, ◌∙◌}
use Prim.Native.Nat.{max}
use native.Mathlib.Omega.{arith}
use lib.ListN.{length}
use Rattle.table_cells.specs.Cells.{largest}
use Rattle.table_heads.specs.Heads.{label}
use Rattle.table_heads.proofs.Shapes.{rows_in_most}
use Rattle.text_table.specs.Plain.{label_places}
use borrow.Author.Rules.{rules}
use Rattle.text_table.proofs.label_places.Statement.{statement}
use Rattle.text_table.proofs.label_places.Tie as tie

rows-in-requires : tie.Need-rows_in-requires
rows-in-requires c κs = c.before.before.before.requires.rows_most

longest-label-requires : tie.Need-longest_label-longest-requires
longest-label-requires c κs =
    let s = c.before.before.before.before in
    (s.requires.from_most, omega (arith, c.rows_in.ensures, rows_in_most s.args.total.now s.args.shape, s.requires.rows_most))

returns : tie.Need-returns
unfolding label_places
returns c =
    let a = c.before.before.before.before.before.before.before.args in
    c.larger.ensures ∙ ap₂ max c.before.line_length.ensures (c.before.before.longest_label-longest.ensures ∙ ap (largest (λ i. length (label a.labels.now a.total.now a.shape i))) c.before.before.before.rows_in.ensures)

pub label_places_spec : {M : Type 1} → statement M
label_places_spec =
    tie.close
    (tie.spec rows-in-requires longest-label-requires (λ c κs. search rules) (λ c κs. search rules) returns)
