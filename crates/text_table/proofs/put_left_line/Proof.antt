-- The line, and the spaces that are left (put_at_left). Assumes nothing.
use mathlib.Core.Path.{ap, ◌∙◌}
use Prim.Native.Nat.{ℕ, ◌-◌}
use Rattle.lines.specs.Lines.{line_of}
use Rattle.text_table.proofs.Lines.{put_at_left}
use borrow.Author.Rules.{rules}
use Rattle.text_table.proofs.put_left_line.Statement.{statement}
use Rattle.text_table.proofs.put_left_line.Tie as tie

returns : tie.Need-returns
returns c =
    let a = c.before.before.before.before.before.before.before.before.before.before.before.before.args in
    put_at_left a.w (line_of a.n a.text.now) (c.before.before.before.left_of.ensures ∙ ap (λ (n : ℕ). a.w - n) c.before.before.before.before.line_length.ensures) c.before.before.before.before.before.before.before.before.put_line-end.ensures c.before.before.put_spaces.ensures

pub put_left_line_spec : {M : Type 1} → statement M
put_left_line_spec =
    tie.close
    (tie.spec (λ c κs. search rules) (λ c κs. search rules) (λ c κs. search rules) (λ c κs. search rules) (λ c. search rules) returns)
