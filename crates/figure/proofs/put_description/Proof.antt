-- The words follow one another (put_five). Assumes nothing.
use Rattle.composing.proofs.Puts.{put_five}
use Rattle.figure.specs.Figure.{description}
use borrow.Author.Rules.{rules}
use Rattle.figure.proofs.put_description.Statement.{statement}
use Rattle.figure.proofs.put_description.Tie as tie

returns : tie.Need-returns
unfolding description
returns c = put_five c.before.before.before.before.before.before.before.before.before.before.before.before.before.before.before.before.before.before.before.before.before.before.put_bytes-a.ensures c.before.before.before.before.before.before.before.before.before.before.before.before.before.before.before.before.before.before.put_line-b.ensures c.before.before.before.before.before.before.before.before.before.before.before.before.put_bytes-c.ensures c.before.before.before.before.before.before.before.before.put_line-d.ensures c.before.before.put_bytes.ensures

pub put_description_spec : {M : Type 1} → statement M
put_description_spec =
    tie.close
    (tie.spec
    (λ c κs. search rules)
    (λ c κs. search rules)
    (λ c κs. search rules)
    (λ c κs. search rules)
    (λ c κs. search rules)
    (λ c. search rules)
    returns)
