-- The words follow one another. Assumes nothing.
use Rattle.composing.proofs.Puts.{put_append, put_three}
use Rattle.figure.specs.Figure.{axis_text, axis_label}
use borrow.Author.Rules.{rules}
use Rattle.figure.proofs.put_axis_label.Statement.{statement}
use Rattle.figure.proofs.put_axis_label.Tie as tie

returns : tie.Need-returns
unfolding axis_label axis_text
returns c =
    put_append
    c.before.before.before.before.before.before.before.before.before.before.before.before.before.before.before.before.before.before.before.before.before.put_bytes-a.ensures
    (put_append (put_three c.before.before.before.before.before.before.before.before.before.before.before.before.before.before.before.before.before.put_unit_word-b.ensures (rw c.before.before.before.before.before.before.before.before.before.before.before.before.before.line_length.ensures at c.before.before.before.before.before.before.before.before.before.before.before.before.put_word_gap-c.ensures) c.before.before.before.before.before.before.before.before.put_line-d.ensures) c.before.before.put_bytes.ensures)

pub put_axis_label_spec : {M : Type 1} → statement M
put_axis_label_spec =
    tie.close
    (tie.spec
    (λ c κs. search rules)
    (λ c κs. search rules)
    (λ c κs. search rules)
    (λ c κs. search rules)
    (λ c κs. search rules)
    (λ c κs. search rules)
    (λ c. search rules)
    returns)
