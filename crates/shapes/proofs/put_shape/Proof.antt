-- The words and the numbers follow one another. Assumes nothing.
use Rattle.composing.proofs.Puts.{put_append, put_five}
use Rattle.shapes.specs.Shapes.{shape}
use borrow.Author.Rules.{rules}
use Rattle.shapes.proofs.put_shape.Statement.{statement}
use Rattle.shapes.proofs.put_shape.Tie as tie

returns : tie.Need-returns
unfolding shape
returns c =
    put_append
    c.before.before.before.before.before.before.before.before.before.before.before.before.before.before.before.before.before.before.before.before.before.before.before.before.before.before.before.before.before.before.before.before.before.before.before.before.put_bytes-a.ensures
    (put_append
    c.before.before.before.before.before.before.before.before.before.before.before.before.before.before.before.before.before.before.before.before.before.before.before.before.before.before.before.before.before.before.before.before.put_byte-b.ensures
    (put_five c.before.before.before.before.before.before.before.before.before.before.before.before.before.before.before.before.before.before.before.before.before.before.before.before.before.before.put_numbered-c.ensures c.before.before.before.before.before.before.before.before.before.before.before.before.before.before.before.before.before.before.before.before.put_numbered-d.ensures c.before.before.before.before.before.before.before.before.before.before.before.before.before.before.put_numbered-e.ensures c.before.before.before.before.before.before.before.before.put_numbered-f.ensures c.before.before.put_bytes.ensures))

pub put_shape_spec : {M : Type 1} → statement M
put_shape_spec =
    tie.close
    (tie.spec
    (λ c κs. search rules)
    (λ c κs. search rules)
    (λ c κs. search rules)
    (λ c κs. search rules)
    (λ c κs. search rules)
    (λ c κs. search rules)
    (λ c κs. search rules)
    (λ c. search rules)
    returns)
