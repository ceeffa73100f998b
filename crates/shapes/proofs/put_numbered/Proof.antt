-- The words and the number follow one another. Assumes nothing.
use Rattle.composing.proofs.Puts.{put_append}
use Rattle.shapes.specs.Shapes.{numbered}
use borrow.Author.Rules.{rules}
use Rattle.shapes.proofs.put_numbered.Statement.{statement}
use Rattle.shapes.proofs.put_numbered.Tie as tie

returns : tie.Need-returns
unfolding numbered
returns c = put_append c.before.before.before.before.before.before.put_bytes-end.ensures c.before.before.put_decimal.ensures

pub put_numbered_spec : {M : Type 1} → statement M
put_numbered_spec =
    tie.close
    (tie.spec
    (λ c κs. search rules)
    (λ c κs. search rules)
    (λ c. search rules)
    returns)
