-- The spaces that are left, and the head (put_at_right). Assumes nothing.
use mathlib.Core.Path.{ap, ◌∙◌}
use Prim.Native.Nat.{ℕ, ◌-◌}
use Rattle.composing.proofs.Decimals.{put_at_right}
use Rattle.table_heads.specs.Heads.{head}
use borrow.Author.Rules.{rules}
use Rattle.text_table.proofs.put_right_head.Statement.{statement}
use Rattle.text_table.proofs.put_right_head.Tie as tie

returns : tie.Need-returns
returns c =
    let a = c.before.before.before.before.before.before.before.before.before.before.before.before.args in
    put_at_right a.w (head a.words.now a.shape a.j) (c.before.before.before.before.before.before.before.left_of.ensures ∙ ap (λ (n : ℕ). a.w - n) c.before.before.before.before.before.before.before.before.head_length.ensures) c.before.before.before.before.before.before.put_spaces-start.ensures c.before.before.put_head.ensures

pub put_right_head_spec : {M : Type 1} → statement M
put_right_head_spec =
    tie.close
    (tie.spec (λ c κs. search rules) (λ c κs. search rules) (λ c κs. search rules) (λ c κs. search rules) (λ c. search rules) returns)
