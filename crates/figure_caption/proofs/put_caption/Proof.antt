-- The words follow one another. Assumes nothing.
use Rattle.composing.proofs.Puts.{put_append, put_five}
use Rattle.figure_caption.specs.Caption.{caption}
use borrow.Author.Rules.{rules}
use Rattle.figure_caption.proofs.put_caption.Statement.{statement}
use Rattle.figure_caption.proofs.put_caption.Tie as tie

returns : tie.Need-returns
unfolding caption
returns c =
    put_append
    (rw c.before.before.before.before.before.before.before.before.before.before.before.before.before.before.before.before.before.before.before.before.before.before.before.before.before.before.before.least_of.ensures at c.before.before.before.before.before.before.before.before.before.before.before.before.before.before.before.before.before.before.before.before.before.before.before.before.before.before.put_numbered-a.ensures)
    (put_five c.before.before.before.before.before.before.before.before.before.before.before.before.before.before.before.before.before.before.before.before.put_bytes-b.ensures c.before.before.before.before.before.before.before.before.before.before.before.before.before.before.before.before.put_line-c.ensures c.before.before.before.before.before.before.before.before.before.before.before.before.put_legend-d.ensures c.before.before.before.before.before.before.before.before.put_legend-e.ensures c.before.before.put_bytes.ensures)

pub put_caption_spec : {M : Type 1} → statement M
put_caption_spec =
    tie.close
    (tie.spec
    (λ c κs. search rules)
    (λ c κs. search rules)
    (λ c κs. search rules)
    (λ c κs. search rules)
    (λ c κs. search rules)
    (λ c κs. search rules)
    (λ c κs. search rules)
    (λ c. search rules)
    returns)
