-- The spaces that are left, and the cell (put_at_right). Assumes nothing.
use mathlib.Core.Path.{ap, ◌∙◌}
use Prim.Native.Nat.{ℕ, ◌-◌}
use Rattle.composing.proofs.Decimals.{put_at_right}
use Rattle.table_cells.specs.Cells.{text_cell_at}
use borrow.Author.Rules.{rules}
use Rattle.text_cells.proofs.put_right_cell.Statement.{statement}
use Rattle.text_cells.proofs.put_right_cell.Tie as tie

returns : tie.Need-returns
returns c =
    let a = c.before.before.before.before.before.before.before.before.before.before.before.args in
    put_at_right a.w (text_cell_at a.values.now a.styles.now a.p) (c.before.before.before.before.before.before.before.left_of.ensures ∙ ap (λ (n : ℕ). a.w - n) c.before.before.before.before.before.before.before.before.cell_length_at.ensures) c.before.before.before.before.before.before.put_spaces-start.ensures c.before.before.put_text_cell_at.ensures

pub put_right_cell_spec : {M : Type 1} → statement M
put_right_cell_spec =
    tie.close
    (tie.spec (λ c κs. search rules) (λ c κs. search rules) (λ c κs. search rules) (λ c κs. search rules) (λ c. search rules) returns)
