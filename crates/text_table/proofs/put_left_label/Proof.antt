-- The label, and the spaces that are left (put_at_left). Assumes nothing.
use mathlib.Core.Path.{ap, ◌∙◌}
use Prim.Native.Nat.{ℕ, ◌-◌}
use Rattle.table_heads.specs.Heads.{label}
use Rattle.text_table.proofs.Lines.{put_at_left}
use borrow.Author.Rules.{rules}
use Rattle.text_table.proofs.put_left_label.Statement.{statement}
use Rattle.text_table.proofs.put_left_label.Tie as tie

returns : tie.Need-returns
returns c =
    let a = c.before.before.before.before.before.before.before.before.before.before.before.before.before.args in
    put_at_left a.w (label a.labels.now a.total.now a.shape a.i) (c.before.before.before.left_of.ensures ∙ ap (λ (n : ℕ). a.w - n) c.before.before.before.before.label_length.ensures) c.before.before.before.before.before.before.before.before.put_label-end.ensures c.before.before.put_spaces.ensures

pub put_left_label_spec : {M : Type 1} → statement M
put_left_label_spec =
    tie.close
    (tie.spec (λ c κs. search rules) (λ c κs. search rules) (λ c κs. search rules) (λ c κs. search rules) (λ c. search rules) returns)
