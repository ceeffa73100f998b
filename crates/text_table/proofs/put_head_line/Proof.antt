-- The head over the labels and those of the columns (put_three). Assumes nothing.
use Rattle.composing.proofs.Puts.{put_three}
use Rattle.text_table.specs.Plain.{head_line}
use borrow.Author.Rules.{rules}
use Rattle.text_table.proofs.put_head_line.Statement.{statement}
use Rattle.text_table.proofs.put_head_line.Tie as tie

returns : tie.Need-returns
unfolding head_line
returns c = put_three c.before.before.before.before.before.before.before.before.before.before.before.before.put_left_line-heads.ensures c.before.before.before.before.before.before.before.before.put_column_heads-end.ensures c.before.before.put_bytes.ensures

pub put_head_line_spec : {M : Type 1} → statement M
put_head_line_spec =
    tie.close
    (tie.spec
    (λ c κs. search rules)
    (λ c κs. search rules)
    (λ c κs. search rules)
    (λ c. search rules)
    returns)
