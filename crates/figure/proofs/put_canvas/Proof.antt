-- The words and the numbers follow one another (put_five). Assumes nothing.
use Rattle.composing.proofs.Puts.{put_five}
use Rattle.figure.specs.Figure.{canvas}
use borrow.Author.Rules.{rules}
use Rattle.figure.proofs.put_canvas.Statement.{statement}
use Rattle.figure.proofs.put_canvas.Tie as tie

returns : tie.Need-returns
unfolding canvas
returns c =
    put_five
    (rw c.before.before.before.before.before.before.before.before.before.before.before.before.before.before.before.before.before.before.before.before.before.before.before.before.before.before.before.before.before.wide_of.ensures at c.before.before.before.before.before.before.before.before.before.before.before.before.before.before.before.before.before.before.before.before.before.before.before.before.before.before.before.before.put_numbered-a.ensures)
    c.before.before.before.before.before.before.before.before.before.before.before.before.before.before.before.before.before.before.before.before.before.before.put_numbered-b.ensures
    (rw c.before.before.before.before.before.before.before.before.before.before.before.before.before.before.before.before.least_of.ensures at c.before.before.before.before.before.before.before.before.before.before.before.before.before.before.before.put_numbered-c.ensures)
    (rw c.before.before.before.before.before.before.before.before.before.wide_of-2.ensures at c.before.before.before.before.before.before.before.before.put_numbered-d.ensures)
    c.before.before.put_bytes.ensures

pub put_canvas_spec : {M : Type 1} → statement M
put_canvas_spec =
    tie.close
    (tie.spec
    (λ c κs. search rules)
    (λ c κs. search rules)
    (λ c. search rules)
    (λ c κs. search rules)
    (λ c κs. search rules)
    (λ c κs. search rules)
    (λ c κs. search rules)
    (λ c κs. search rules)
    (λ c κs. search rules)
    (λ c. search rules)
    returns)
