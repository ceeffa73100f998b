-- The words and the numbers follow one another (put_three). Assumes nothing.
use Rattle.composing.proofs.Puts.{put_three}
use Rattle.shapes.specs.Shapes.{tick_line}
use borrow.Author.Rules.{rules}
use Rattle.shapes.proofs.put_tick_line.Statement.{statement}
use Rattle.shapes.proofs.put_tick_line.Tie as tie

returns : tie.Need-returns
unfolding tick_line
returns c = put_three c.before.before.before.before.before.before.before.before.before.before.before.before.before.before.put_numbered-a.ensures c.before.before.before.before.before.before.before.before.put_numbered-b.ensures c.before.before.put_numbered.ensures

pub put_tick_line_spec : {M : Type 1} → statement M
put_tick_line_spec =
    tie.close
    (tie.spec
    (λ c κs. search rules)
    (λ c κs. search rules)
    (λ c. search rules)
    (λ c κs. search rules)
    (λ c. search rules)
    returns)
